-- What the code writes for a join, groupjoin or dependent join of an accepted plan.
use mathlib.Core.Path.{◌≡◌, refl, sym, ap, ◌∙◌}
use mathlib.Core.Bool.{Bool, true, false, true≢false}
use mathlib.Core.List.{List, [], ◌∷◌, ◌++◌, map}
use Prim.Native.Nat.{ℕ, ◌+◌, ◌-◌}
use lib.ListN.{length, length-map}
use lib.Dec.{eqb}
use borrow.Author.Tests.{eqb-true, eqb-false}
use Rattle.algebra.specs.Lists.{all, upto, Every}
use Rattle.algebra.specs.Plan.{Conjunct, Aggregate, Node, join, groupjoin, dependent}
use Rattle.algebra.specs.Domains.{Domain, move_conjunct, move_aggregate, shift, shift_both, around, match, below, under_both, under_inner}
use Rattle.algebra.specs.Rewriting.{emit, dropping}
use Rattle.plan.specs.Words.{Item, operator, left, right, kind, items_from}
use Rattle.plan.specs.Items.{is_conjunct, conjunct_of, conjuncts_in, aggregates_in, conjunct_right}
use Rattle.plan.specs.Plan.{node_for, node_at, kind_of}
use Rattle.plan.specs.Verdict.{has_right, items_right}
use Rattle.plan.specs.Codes.{meant_kind}
use Rattle.plan.specs.Encoding.{conjunct_words, aggregate_words, kind_word}
use Rattle.plan.specs.declared.kinds.JoinKind.{JoinKind}
use Rattle.plan.specs.declared.operator.Operator.TheVariants.{Join, Groupjoin}
use Rattle.plan.proofs.Laws.Numbered.{every_all}
use Rattle.plan.proofs.Laws.Formed.{by_operator, facts_at}
use Rattle.pages.specs.Items.{item_words, shifted_words, moved_words}
use Rattle.rules.specs.Under.{conjunct_count, with_copy, with_open, with_inner}
use Rattle.pages.specs.Pages.{head_of}
use Rattle.pages.proofs.Laws.Pages.{missed_more}
use Rattle.pages.specs.declared.page.OverLimits.{OverLimits}
use Rattle.pages.specs.declared.page.Page.{Page}
use Rattle.pages.specs.Pages.{Grows, Missed}
use Rattle.rules.proofs.Laws.RulePages.{drops_missed, grows_as, grows_missed}
use Rattle.std.specs.Prelude.{Some, None, Result, IsErr}
use Rattle.rules.proofs.Laws.ItemSorts.{Parted, Read, node_is, sorts, groupjoin_parted, groupjoin_conjuncts, all_conjuncts}
use Rattle.rules.proofs.Laws.RuleItems.{Written, coded_back, shift_both_lem, conjuncts_all, conjuncts_behind}
use Rattle.rules.proofs.Laws.OneInputNodes.{behind_shifted, behind_copied, behind_length}

module _ {ws : List ℕ} {n a count : ℕ} (read : Read ws n a count) (b : has_right (operator ws n) ≡ true) where
  -- its items and its conjuncts
  abbrev xs : List Item
  xs = items_from ws a count

  abbrev cs : List Conjunct
  cs = conjuncts_in xs

  not : {A : Type 0} → false ≡ true → A
  not t = absurd (true≢false (sym t))

  module _ (f : operator ws n ≡ 7 → ⊥) where
    -- a property of joins and dependent joins
    by_join : (P : ℕ → Type 0) → P 5 → P 8 → P (operator ws n)
    by_join P p5 p8 =
        let v = facts_at ws read.accepted.formed n read.there in
        by_operator (λ o. has_right o ≡ true → (o ≡ 7 → ⊥) → P o) not not not not (λ t g. p5) not (λ t g. absurd (g refl)) (λ t g. p8)
        (operator ws n) v.low v.high b f

    conjuncts : Every (λ x. conjunct_right x ≡ true) xs
    unfolding items_right
    conjuncts =
        every_all conjunct_right xs
        (by_join (λ o. items_right o xs ≡ true → all conjunct_right xs ≡ true) (λ s. s) (λ s. s) (sorts read (operator ws n) refl))

    -- where a rule treats both alike, the node is as good as a join
    pub as_join : {X : Type 0} (F : Node → X)
        → F (dependent (kind_of (kind ws n)) cs (left ws n) (right ws n)) ≡ F (join (kind_of (kind ws n)) cs (left ws n) (right ws n))
        → F (node_at ws n) ≡ F (join (kind_of (kind ws n)) cs (left ws n) (right ws n))
    unfolding node_for
    as_join F same =
        let k = kind_of (kind ws n) in
        ap F (node_is read (operator ws n) refl)
        ∙ by_join (λ o. F (node_for o (left ws n) (right ws n) k xs) ≡ F (join k cs (left ws n) (right ws n))) refl same

    -- conjuncts ms, then the node's own
    pub join_written : (D : Domain) (ms : List Conjunct) (g : ℕ → ℕ) (i j : ℕ) {m : ℕ} {k : JoinKind} → m ≡ conjunct_count ws n → meant_kind k ≡ kind_of (kind ws n)
        → Written (map conjunct_words ms ++ map (moved_words D g) (items_from ws a m)) (head_of Join i j (Some k)) 0
        (join (kind_of (kind ws n)) (ms ++ map (move_conjunct D g) cs) i j)
    join_written D ms g i j {m} p q =
        let all : m ≡ count = p ∙ sym (all_conjuncts read f) in
        rw all
        (record {
          items = conjuncts_behind D cs xs (conjuncts_all xs conjuncts) conjuncts ms g;
          operator = refl;
          left = refl;
          right = refl;
          kind = ap kind_word q;
          extra_is = λ widths. refl;
        })

  module _ (f : operator ws n ≡ 7) {m : ℕ} (p : m ≡ conjunct_count ws n) where
    parted : Parted ws a count conjunct_right is_conjunct m
    parted = rw (p ∙ groupjoin_conjuncts read f) (groupjoin_parted read f)

    -- conjuncts ms, then the node's own, then aggregates gs
    groupjoin_written : (D : Domain) (ms : List Conjunct) (g : ℕ → ℕ) (i j : ℕ) {new : List (List ℕ)} {gs : List Aggregate}
        → new ≡ map aggregate_words gs → length (aggregates_in xs) ≡ length gs
        → Written ((map conjunct_words ms ++ map (moved_words D g) (items_from ws a m)) ++ new) (head_of Groupjoin i j None) (count - m)
        (groupjoin (ms ++ map (move_conjunct D g) cs) gs i j)
    groupjoin_written D ms g i j q l = record {
      items = rw (q, conjuncts_behind D cs (items_from ws a m) (ap (map conjunct_of) parted.front_kept) parted.front ms g);
      operator = refl;
      left = refl;
      right = refl;
      kind = refl;
      extra_is = λ widths. behind_length parted ∙ l;
    }

  module _ (D : Domain) {w : ℕ} (i j : ℕ) {m : ℕ} (e : w ≡ D.width) (p : m ≡ conjunct_count ws n) where
    -- with the copy of a closed right
    pub join_copied : (operator ws n ≡ 7 → ⊥) → {k : JoinKind} → meant_kind k ≡ kind_of (kind ws n)
        → Written (map (moved_words D (shift_both 0 w 0)) (items_from ws a m)) (head_of Join i j (Some k)) 0 (with_copy D i j (node_at ws n))
    join_copied f q =
        rw (as_join f (with_copy D i j) refl, e, shift_both_lem D.width) (join_written f D [] (shift D.width) i j p q)

    pub groupjoin_copied : operator ws n ≡ 7
        → Written (map (moved_words D (shift_both 0 w 0)) (items_from ws a m) ++ map item_words (items_from ws (a + m) (count - m)))
        (head_of Groupjoin i j None) (count - m) (with_copy D i j (node_at ws n))
    unfolding node_for
    groupjoin_copied f =
        rw (node_is read 7 f, e, shift_both_lem D.width)
        (groupjoin_written f p D [] (shift D.width) i j {gs = aggregates_in xs} (behind_copied (parted f p)) refl)

    -- with an open right
    module _ (wl : ℕ) where
      pub join_open_lem : (operator ws n ≡ 7 → ⊥) → {k : JoinKind} → meant_kind k ≡ kind_of (kind ws n)
          → Written (map conjunct_words (match (λ q. q) (λ q. w + wl + q) (upto w)) ++ map (moved_words D (shift_both wl w w)) (items_from ws a m))
          (head_of Join i j (Some k)) 0 (join (kind_of (kind ws n)) (under_both D wl cs) i j)
      join_open_lem f q =
          let ms = match (λ q. q) (λ q. D.width + wl + q) (upto D.width) in
          rw e (join_written f D ms (shift_both wl D.width D.width) i j p q)

      pub groupjoin_open : operator ws n ≡ 7
          → Written
          ((map conjunct_words (match (λ q. q) (λ q. w + wl + q) (upto w)) ++ map (moved_words D (shift_both wl w w)) (items_from ws a m))
          ++ map (shifted_words w) (items_from ws (a + m) (count - m)))
          (head_of Groupjoin i j None) (count - m) (groupjoin (under_both D wl cs) (map (move_aggregate (shift D.width)) (aggregates_in xs)) i j)
      groupjoin_open f =
          let ms = match (λ q. q) (λ q. D.width + wl + q) (upto D.width) in
          rw e
          (groupjoin_written f p D ms (shift_both wl D.width D.width) i j
          (behind_shifted (parted f p) D.width) (sym (length-map (aggregates_in xs) (move_aggregate (shift D.width)))))

      -- with a right under a new domain
      pub join_inner : (operator ws n ≡ 7 → ⊥) → {k : JoinKind} → meant_kind k ≡ kind_of (kind ws n) → (ks : List ℕ) {v : ℕ} → v ≡ length ks
          → Written
          (map conjunct_words (match (λ q. q) (λ q. w + wl + below ks q) ks) ++ map (moved_words D (shift_both wl w v)) (items_from ws a m))
          (head_of Join i j (Some k)) 0 (join (kind_of (kind ws n)) (under_inner D wl ks cs) i j)
      join_inner f q ks l =
          let ms = match (λ q. q) (λ q. D.width + wl + below ks q) ks in
          rw (e, l) (join_written f D ms (shift_both wl D.width (length ks)) i j p q)

  -- ---- behind the nodes before

  module _ (D : Domain) {w : ℕ} (wl wr i j : ℕ) (e : w ≡ D.width) (out : List Node) where
    pub open_groupjoin : operator ws n ≡ 7
        → out ++ (groupjoin (under_both D wl cs) (map (move_aggregate (shift D.width)) (aggregates_in xs)) i j ∷ [])
        ≡ with_open D wl wr i j (node_at ws n) out
    unfolding node_for
    open_groupjoin f = rw (node_is read 7 f)

    pub open_join : (operator ws n ≡ 7 → ⊥) → (k : JoinKind) → meant_kind k ≡ kind_of (kind ws n)
        → (dropping (meant_kind k) (around (w + wl) w wr) (emit (join (kind_of (kind ws n)) (under_both D wl cs) i j) out)).out
        ≡ with_open D wl wr i j (node_at ws n) out
    open_join f k q = rw (e, q) (sym (as_join f (λ x. with_open D wl wr i j x out) refl))

    pub inner_join : operator ws n ≡ 8 → (k : JoinKind) → meant_kind k ≡ kind_of (kind ws n) → (ks : List ℕ) {v : ℕ} → v ≡ length ks
        → (dropping (meant_kind k) (around (w + wl) v wr) (emit (join (kind_of (kind ws n)) (under_inner D wl ks cs) i j) out)).out
        ≡ with_inner D ks wl wr i j (node_at ws n) out
    unfolding node_for
    inner_join f k q ks l = rw (e, q, l, node_is read 8 f)

  -- ---- where the first items are too much

  module _ (D : Domain) {w : ℕ} (i j : ℕ) {m : ℕ} (e : w ≡ D.width) (p : m ≡ conjunct_count ws n) where
    pub copy_missed : {q q' : Page} → Missed q q' (map (moved_words D (shift_both 0 w 0)) (items_from ws a m)) → (r : Page) (result : Result ℕ OverLimits)
        → IsErr result → Grows q r result (λ out. out ++ (with_copy D i j (node_at ws n) ∷ []))
    copy_missed {q} missed = go (eqb (operator ws n) 7) refl
      where
        go : (t : Bool) → eqb (operator ws n) 7 ≡ t → (r : Page) (result : Result ℕ OverLimits) → IsErr result
            → Grows q r result (λ out. out ++ (with_copy D i j (node_at ws n) ∷ []))
        go true t = grows_missed _ _ (groupjoin_copied D i j e p (eqb-true _ 7 t)) (missed_more _ _ missed)
        go false t = grows_missed _ _ (join_copied D i j e p (eqb-false _ 7 t) (coded_back (kind_of (kind ws n)))) missed

    pub open_missed : (wl wr : ℕ) {q q' : Page}
        → Missed q q' (map conjunct_words (match (λ q. q) (λ q. w + wl + q) (upto w)) ++ map (moved_words D (shift_both wl w w)) (items_from ws a m))
        → (r : Page) (result : Result ℕ OverLimits) → IsErr result → Grows q r result (with_open D wl wr i j (node_at ws n))
    open_missed wl wr {q} missed r result x = go (eqb (operator ws n) 7) refl
      where
        go : (t : Bool) → eqb (operator ws n) 7 ≡ t → Grows q r result (with_open D wl wr i j (node_at ws n))
        go true t =
            grows_as _ (with_open D wl wr i j (node_at ws n)) (λ out. open_groupjoin D wl wr i j e out (eqb-true _ 7 t))
            (grows_missed _ _ (groupjoin_open D i j e p wl (eqb-true _ 7 t)) (missed_more _ _ missed) r result x)
        go false t =
            grows_as _ (with_open D wl wr i j (node_at ws n)) (λ out. open_join D wl wr i j e out (eqb-false _ 7 t) _ (coded_back (kind_of (kind ws n))))
            (drops_missed _ (w + wl) w wr _ _ (join_open_lem D i j e p wl (eqb-false _ 7 t) (coded_back (kind_of (kind ws n)))) missed r result x)
