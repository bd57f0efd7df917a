-- What the code writes for a node of an accepted plan is the node of its rule.
use mathlib.Core.Path.{◌≡◌, refl, sym, ap, ◌∙◌}
use mathlib.Core.Bool.{Bool, true, false, ◌&&◌, true≢false}
use mathlib.Core.List.{List, [], ◌∷◌, ◌++◌, map, append_assoc}
use Prim.Native.Nat.{ℕ, suc, ◌+◌, ◌-◌}
use native.Mathlib.Omega.{arith}
use native.Mathlib.Nat.{sub-zero}
use lib.Dec.{eqb}
use lib.ListN.{length, length-map}
use borrow.Author.Tests.{eqb-true}
use Rattle.algebra.specs.Lists.{keep, all, upto}
use Rattle.algebra.specs.Plan.{Aggregate, group}
use Rattle.algebra.specs.Domains.{Domain, move_computation, move_aggregate, shift, shift_both, span, domain_first, match}
use Rattle.algebra.proofs.Lists.Keep.{map_append}
use Rattle.plan.specs.Words.{Item, operator, left, right, kind, items_from}
use Rattle.plan.specs.Items.{is_key, position_of, aggregate_of, conjuncts_in, keys_in, aggregates_in, conjunct_right, computation_right, key_right}
use Rattle.plan.specs.Plan.{computation_in, node_for, node_at, kind_of}
use Rattle.plan.specs.Verdict.{has_right, items_right}
use Rattle.plan.specs.Codes.{number_of}
use Rattle.plan.specs.declared.operator.Operator.{Operator}
use Rattle.plan.specs.declared.operator.Operator.TheVariants.{Scan, Select, Map, Project, Join, Group, Groupjoin, Dependent}
use Rattle.plan.specs.Encoding.{conjunct_words, computation_words, position_words, aggregate_words}
use Rattle.plan.proofs.Laws.Header.{both}
use Rattle.plan.proofs.Laws.Numbered.{every_all}
use Rattle.plan.proofs.Laws.Items.{items_length}
use Rattle.pages.specs.Items.{item_words, shifted_words, moved_words}
use Rattle.rules.specs.Under.{over_input}
use Rattle.pages.specs.Pages.{head_of}
use Rattle.rules.proofs.Laws.ItemSorts.{Parted, Read, node_is, sorts, group_parted, outputs}
use Rattle.std.specs.Prelude.{None}
use Rattle.rules.proofs.Laws.RuleItems.{Written, computation_moved, shift_both_lem, aggregates_shifted, aggregates_copied}
use Rattle.rules.proofs.Laws.RuleItems.{conjuncts_all, conjuncts_alike, columns_first}

-- a group with keys
over_keys : (D : Domain) (i j : ℕ) (gs : List Aggregate) (ks : List ℕ) → (length ks ≡ 0 → ⊥)
    → over_input D i (group ks gs j) ≡ group (domain_first D ks) (map (move_aggregate (shift D.width)) gs) i
over_keys D i j gs [] f = absurd (f refl)
over_keys D i j gs (k ∷ ks) f = refl

-- the aggregates behind m items of another sort
module _ {ws : List ℕ} {a count : ℕ} {p s : Item → Bool} {m : ℕ} (parted : Parted ws a count p s m) where
  pub behind_shifted : (w : ℕ)
      → map (shifted_words w) (items_from ws (a + m) (count - m)) ≡ map aggregate_words (map (move_aggregate (shift w)) (aggregates_in (items_from ws a count)))
  behind_shifted w =
      aggregates_shifted w (items_from ws (a + m) (count - m)) parted.behind
      ∙ ap (λ (l : List Item). map aggregate_words (map (move_aggregate (shift w)) (map aggregate_of l))) (sym parted.behind_kept)

  pub behind_copied : map item_words (items_from ws (a + m) (count - m)) ≡ map aggregate_words (aggregates_in (items_from ws a count))
  behind_copied =
      aggregates_copied (items_from ws (a + m) (count - m)) parted.behind
      ∙ ap (λ (l : List Item). map aggregate_words (map aggregate_of l)) (sym parted.behind_kept)

  pub behind_length : count - m ≡ length (aggregates_in (items_from ws a count))
  behind_length =
      sym
      (ap (λ (l : List Item). length (map aggregate_of l)) parted.behind_kept
      ∙ length-map (items_from ws (a + m) (count - m)) aggregate_of
      ∙ items_length ws (a + m) (count - m))

module _ {ws : List ℕ} {n a count : ℕ} (read : Read ws n a count) (D : Domain) {w : ℕ} (i : ℕ) (e : w ≡ D.width) where
  -- its items, and the aggregates among them as they stand under D
  abbrev xs : List Item
  xs = items_from ws a count

  abbrev gs : List Aggregate
  gs = map (move_aggregate (shift D.width)) (aggregates_in xs)

  pub project_over : operator ws n ≡ 4
      → Written (map (position_words 12) (span 0 w) ++ map (shifted_words w) xs) (head_of Project i 0 None) 0 (over_input D i (node_at ws n))
  unfolding node_for
  project_over q =
      rw (e, node_is read 4 q)
      (record {
        items = columns_first D 12 refl (map position_of xs) xs refl (outputs read q);
        operator = refl;
        left = refl;
        right = refl;
        kind = refl;
        extra_is = λ widths. refl;
      })

  module _ (q : operator ws n ≡ 6) {m : ℕ} (f : m ≡ length (keep is_key (items_from ws a count))) where
    keys : m ≡ length (keep is_key xs)
    keys = f

    parted : Parted ws a count key_right is_key m
    parted = rw keys (group_parted read q)

    -- a group without keys becomes a groupjoin with the domain
    pub group_none : m ≡ 0 → (node : ℕ) → node ≡ D.node
        → Written (map conjunct_words (match (λ p. p) (λ p. w + p) (upto w)) ++ map (shifted_words w) xs)
        (head_of Groupjoin node i None) count (over_input D i (node_at ws n))
    unfolding node_for
    group_none z node g =
        let p : Parted ws a count key_right is_key 0 = rw z at parted in
        let front = map conjunct_words (match (λ p. p) (λ p. D.width + p) (upto D.width)) in
        rw (e, node_is read 6 q, p.front_kept, g)
        (record {
          items = ap (λ (l : List (List ℕ)). front ++ l) (ap (map (shifted_words D.width)) p.whole ∙ behind_shifted p D.width);
          operator = refl;
          left = refl;
          right = refl;
          kind = refl;
          extra_is = λ widths. sym (sub-zero count) ∙ behind_length p ∙ sym (length-map (aggregates_in xs) (move_aggregate (shift D.width)));
        })

    pub group_some : (m ≡ 0 → ⊥)
        → Written (map (position_words 11) (span 0 w) ++ map (shifted_words w) xs) (head_of Group i 0 None) 0 (over_input D i (node_at ws n))
    unfolding node_for
    group_some z =
        rw (e, node_is read 6 q, over_keys D i (left ws n) (aggregates_in xs) (keys_in xs) some)
        (record { items = items; operator = refl; left = refl; right = refl; kind = refl; extra_is = λ widths. refl })
      where
        some : length (keys_in xs) ≡ 0 → ⊥
        some r = z (keys ∙ sym (length-map (keep is_key xs) position_of) ∙ r)

        ys : List Item
        ys = items_from ws a m

        front : List (List ℕ)
        front = map (position_words 11) (span 0 D.width)

        items : front ++ map (shifted_words D.width) xs ≡ map (position_words 11) (domain_first D (keys_in xs)) ++ map aggregate_words gs
        items =
            ap (λ (l : List Item). front ++ map (shifted_words D.width) l) parted.whole
            ∙ rw (map_append (shifted_words D.width) ys (items_from ws (a + m) (count - m)), behind_shifted parted D.width)
            (sym (append_assoc front (map (shifted_words D.width) ys) _))
            ∙ ap (λ (l : List (List ℕ)). l ++ map aggregate_words gs)
            (columns_first D 11 refl (keys_in xs) ys (ap (map position_of) parted.front_kept) parted.front)

  -- select and map
  module _ (h : operator ws n ≡ 1 → ⊥) (k : has_right (operator ws n) ≡ false) where
    pub moved_over : (x : Operator) → operator ws n ≡ number_of x → (x ≡ Project → ⊥) → (x ≡ Group → ⊥)
        → Written (map (moved_words D (shift_both 0 w 0)) xs) (head_of x i 0 None) 0 (over_input D i (node_at ws n))
    unfolding node_for items_right
    moved_over x q f g = rw (e, node_is read (number_of x) q) (go x q f g)
      where
        Over : Operator → Type 0
        Over x =
            Written (map (moved_words D (shift_both 0 D.width 0)) xs) (head_of x i 0 None) 0
            (over_input D i (node_for (number_of x) (left ws n) (right ws n) (kind_of (kind ws n)) xs))

        selects : all conjunct_right xs ≡ true → Over Select
        selects s =
            let r = every_all conjunct_right xs s in
            record {
              items = conjuncts_alike D (conjuncts_in xs) xs (conjuncts_all xs r) r;
              operator = refl;
              left = refl;
              right = refl;
              kind = refl;
              extra_is = λ widths. refl;
            }

        computes : (eqb (length xs) 1 && all computation_right xs) ≡ true → Over Map
        computes s =
            record { items = single xs s; operator = refl; left = refl; right = refl; kind = refl; extra_is = λ widths. refl }
          where
            single : (ys : List Item) → (eqb (length ys) 1 && all computation_right ys) ≡ true
                → map (moved_words D (shift_both 0 D.width 0)) ys ≡ computation_words (move_computation D (shift D.width) (computation_in ys)) ∷ []
            single [] r = absurd (true≢false (sym r))
            single (y ∷ []) r =
                rw (shift_both_lem D.width) (ap (λ (l : List ℕ). l ∷ []) (computation_moved D (shift D.width) y (both _ _ r).0))
            single (y ∷ u ∷ ys) r = absurd (omega (arith, eqb-true (suc (suc (length ys))) 1 (both _ _ r).0))

        go : (x : Operator) → operator ws n ≡ number_of x → (x ≡ Project → ⊥) → (x ≡ Group → ⊥) → Over x
        go Scan q f g = absurd (h q)
        go Select q f g = selects (sorts read 2 q)
        go Map q f g = computes (sorts read 3 q)
        go Project q f g = absurd (f refl)
        go Join q f g = absurd (true≢false (rw q at k))
        go Group q f g = absurd (g refl)
        go Groupjoin q f g = absurd (true≢false (rw q at k))
        go Dependent q f g = absurd (true≢false (rw q at k))
