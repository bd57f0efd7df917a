-- The table of read columns, filled node by node.
use mathlib.Core.Path.{◌≡◌, refl, sym, ap, ap₂, ◌∙◌}
use mathlib.Core.Bool.{Bool, true, false, cond, ◌&&◌, ◌||◌, and-false, or-false, or_comm}
use mathlib.Core.List.{List, [], ◌∷◌, ◌++◌, append-nil}
use mathlib.Core.Logic.{◌⊎◌, inl, inr, ⊎_elim}
use Prim.Native.Nat.{ℕ, suc, ◌+◌, ◌^◌, ◌<◌, ◌≤◌}
use native.Mathlib.Omega.{arith}
use native.Mathlib.Nat.{zero-div, add-zero}
use native.Mathlib.Numerals.{add-one}
use lib.Dec.{eqb, ltb}
use lib.Bits.{bit_or}
use lib.ListN.{length, get_or, set, replicate, length-set, get_or-replicate, get_or-eq_default}
use lib.Seq.{get_or-set_same, get_or-set_other}
use borrow.Author.Tests.{eqb-true, eqb-false, eq-eqb, ne_eqb, ltb-true, ltb-false, lt-ltb, le-ltb}
use Rattle.algebra.specs.Lists.{each, upto}
use Rattle.algebra.specs.Plan.{Term, outer}
use Rattle.algebra.specs.Columns.{Column, term_reads, past}
use Rattle.algebra.proofs.Lists.Keep.{map_append, each_append}
use Rattle.plan.specs.Words.{nodes, operator, left, right, first_item, item_count, three_at, item_at, items_from, items_of}
use Rattle.plan.specs.Items.{term_of}
use Rattle.plan.specs.Verdict.{has_right}
use Rattle.plan.specs.Promise.{Accepted}
use Rattle.plan.specs.declared.operator.Operator.{Operator}
use Rattle.plan.specs.declared.operator.Operator.TheVariants.{Scan, Join, Groupjoin, Dependent}
use Rattle.plan.specs.Codes.{operator_of, number_of}
use Rattle.plan.proofs.Laws.Codes.{OneInput}
use Rattle.plan.proofs.Laws.Formed.{NodeFacts, facts_at, is_named}
use Rattle.pages.specs.declared.sets.ColumnSet.{ColumnSet}
use Rattle.pages.specs.Sets.{in_set}
use Rattle.rules.specs.Reads.{reads_at, reads, Rows, set_at, ReadsTable, Added, input_read, input_reads, Filled}
use Rattle.pages.proofs.Laws.Sets.{in_or, in_with}
use Rattle.pages.proofs.Laws.Limits.{node_index}
use Rattle.rules.proofs.Laws.ColumnsRead.{reads_append, reads_past, Low, low_none, item_reads, reads_at_lem, reads_low}

-- ---- a table with more in it

-- nothing
added_none : (n : ℕ) (f : ℕ → ℕ → Bool) (table : List (List ColumnSet)) → ((l p : ℕ) → l < 8 → p < 64 → f l p ≡ false) → Added n f table table
added_none n f table h = record { rows = λ r. r; each = λ m l p hm hl hp. rw (h l p hl hp, and-false (eqb m n)) (sym (or-false _)) }

-- one after the other
added_both : {n : ℕ} {f g : ℕ → ℕ → Bool} {t u v : List (List ColumnSet)} → Added n f t u → Added n g u v → Added n (λ l p. f l p || g l p) t v
added_both {n} {f} {g} {t} a b = record {
  rows = λ r. b.rows (a.rows r);
  each = λ m l p hm hl hp. b.each m l p hm hl hp ∙ rw (a.each m l p hm hl hp) (go (in_set (set_at t m l) p) (eqb m n) (f l p) (g l p));
}
  where
    go : (x y c d : Bool) → ((x || (y && c)) || (y && d)) ≡ (x || (y && (c || d)))
    go true y c d = refl
    go false true c d = refl
    go false false c d = refl

-- the same said otherwise
added_same : {n : ℕ} {f g : ℕ → ℕ → Bool} {t u : List (List ColumnSet)} → Added n f t u → ((l p : ℕ) → l < 8 → p < 64 → f l p ≡ g l p) → Added n g t u
added_same a e = record { rows = a.rows; each = λ m l p hm hl hp. rw (sym (e l p hl hp)) (a.each m l p hm hl hp) }

-- nothing of another node
added_other : {n : ℕ} {f : ℕ → ℕ → Bool} {t u : List (List ColumnSet)} → Added n f t u → (m l p : ℕ) → (m ≡ n → ⊥) → m < 256 → l < 8 → p < 64
    → in_set (set_at u m l) p ≡ in_set (set_at t m l) p
added_other {n} a m l p d hm hl hp = a.each m l p hm hl hp ∙ rw (ne_eqb m n d) (or-false _)

-- a row that has sets is there
there : (table : List (List ColumnSet)) (n : ℕ) → length (get_or table n []) ≡ 8 → n < length table
there table n e = go (ltb n (length table)) refl
  where
    go : (b : Bool) → ltb n (length table) ≡ b → n < length table
    go true t = ltb-true n (length table) t
    go false t = absurd (omega (arith, e, ap length (get_or-eq_default table [] (ltb-false n (length table) t))))

-- a store at node n and level k
added_at : (table : List (List ColumnSet)) (n k : ℕ) (v : ColumnSet) (b : ℕ → Bool) → Rows table → n < 256 → k < 8
    → ((p : ℕ) → in_set v p ≡ (in_set (set_at table n k) p || b p))
    → Added n (λ l p. eqb k l && b p) table (set table n (set (get_or table n []) k v))
added_at table n k v b wide hn hk h = record {
  rows = λ r m hm. rows m hm (eqb m n) refl;
  each = λ m l p hm hl hp. go m l p (eqb m n) refl (eqb k l) refl;
}
  where
    none : ColumnSet
    none = record { bits = 0 }

    row : List ColumnSet
    row = get_or table n []

    here : get_or (set table n (set row k v)) n [] ≡ set row k v
    here = get_or-set_same table n (set row k v) [] (there table n (wide n hn))

    elsewhere : (m : ℕ) → (m ≡ n → ⊥) → get_or (set table n (set row k v)) m [] ≡ get_or table m []
    elsewhere m = get_or-set_other table n m (set row k v) []

    rows : (m : ℕ) → m < 256 → (x : Bool) → eqb m n ≡ x → length (get_or (set table n (set row k v)) m []) ≡ 8
    rows m hm true f = rw (eqb-true m n f, here) (length-set row k v ∙ wide n hn)
    rows m hm false f = rw (elsewhere m (eqb-false m n f)) (wide m hm)

    kept : {x y : ColumnSet} (p : ℕ) → x ≡ y → in_set x p ≡ (in_set y p || false)
    kept p e = ap (λ (s : ColumnSet). in_set s p) e ∙ sym (or-false _)

    go : (m l p : ℕ) → (x : Bool) → eqb m n ≡ x → (y : Bool) → eqb k l ≡ y
        → in_set (set_at (set table n (set row k v)) m l) p ≡ (in_set (set_at table m l) p || (x && (y && b p)))
    go m l p true f true g =
        rw (eqb-true m n f, sym (eqb-true k l g), here)
        (ap (λ (s : ColumnSet). in_set s p) (get_or-set_same row k v none (omega (arith, wide n hn))) ∙ h p)
    go m l p true f false g =
        let d = eqb-false k l g in
        rw (eqb-true m n f, here) (kept p (get_or-set_other row k l v none (λ q. d (sym q))))
    go m l p false f y g =
        kept p (ap (λ (r : List ColumnSet). get_or r l none) (elsewhere m (eqb-false m n f)))

-- ---- a term

-- a test as it is, or with nothing behind it
just : (b : Bool) → cond b true false ≡ b
just true = refl
just false = refl

-- an outer column
pub term_outer : (n : ℕ) (table : List (List ColumnSet)) (m : Term) (l p : ℕ) → m ≡ outer l p → Rows table → n < 256 → l < 8
    → {v : ColumnSet} → v.bits ≡ bit_or (set_at table n l).bits (2 ^ p)
    → Added n (reads (term_reads m)) table (set table n (set (get_or table n []) l v))
term_outer n table m l p e wide hn hl {v} ev =
    added_same (added_at table n l v (eqb p) wide hn hl (in_with (set_at table n l) v p ev))
    (λ x y hx hy. rw e (sym (just (eqb l x && eqb p y))))

-- ---- an input

-- what input i reads, of the levels below l
abbrev pub levels_read : List (List ColumnSet) → ℕ → ℕ → ℕ → ℕ → ℕ → Bool
levels_read table i skip l k p = ltb k l && input_read table i skip k p

module _ (t₀ : List (List ColumnSet)) (n i skip : ℕ) where
  pub levels_none : Added n (levels_read t₀ i skip 0) t₀ t₀
  levels_none = added_none n _ t₀ (λ k p hk hp. rw (le-ltb k 0 (omega arith)))

  -- one level more
  pub levels_more : {t : List (List ColumnSet)} (l : ℕ) → n < 256 → i < n → Rows t₀ → Added n (levels_read t₀ i skip l) t₀ t → l + skip < 8
      → {v : ColumnSet} → v.bits ≡ bit_or (set_at t n l).bits (set_at t i (l + skip)).bits
      → Added n (levels_read t₀ i skip (l + 1)) t₀ (set t n (set (get_or t n []) l v))
  levels_more {t} l hn hi wide before h {v} ev =
      added_same (added_both before (added_at t n l v (in_set (set_at t i (l + skip))) (before.rows wide) hn (omega arith)
      (in_or (set_at t n l) (set_at t i (l + skip)) v ev)))
      (λ k p hk hp. go k p hk hp (ltb k l) refl (eqb l k) refl)
    where
      go : (k p : ℕ) → k < 8 → p < 64 → (x : Bool) → ltb k l ≡ x → (y : Bool) → eqb l k ≡ y
          → ((x && input_read t₀ i skip k p) || (y && in_set (set_at t i (l + skip)) p)) ≡ levels_read t₀ i skip (l + 1) k p
      go k p hk hp true f true g = let s = ltb-true k l f in let q = eqb-true l k g in absurd (omega arith)
      go k p hk hp true f false g = let s = ltb-true k l f in rw (lt-ltb k (l + 1) (omega arith)) (or-false _)
      go k p hk hp false f true g =
          let q : k ≡ l = sym (eqb-true l k g) in
          rw (q, lt-ltb l (l + 1) (omega arith), lt-ltb (l + skip) 8 h) (added_other before i (l + skip) p (λ z. omega arith) (omega arith) h hp)
      go k p hk hp false f false g =
          let s = ltb-false k l f in
          let d = eqb-false l k g in
          rw (le-ltb k (l + 1) (omega arith))

  -- all levels
  pub levels_end : {t : List (List ColumnSet)} (l : ℕ) → Added n (levels_read t₀ i skip l) t₀ t → 8 ≤ l + skip → Added n (input_read t₀ i skip) t₀ t
  levels_end {t} l a h = added_same a (λ k p hk hp. go k p (ltb k l) refl)
    where
      go : (k p : ℕ) (x : Bool) → ltb k l ≡ x → (x && input_read t₀ i skip k p) ≡ input_read t₀ i skip k p
      go k p true f = refl
      go k p false f = let s = ltb-false k l f in rw (le-ltb (k + skip) 8 (omega arith))

-- ---- the inputs of a node

module _ (ws : List ℕ) (n : ℕ) (t : List (List ColumnSet)) (table : ReadsTable ws n t) where
  -- the table has the nodes before n as long as it gets only columns of n
  table_kept : {f : ℕ → ℕ → Bool} {u : List (List ColumnSet)} → n < 256 → Added n f t u → ReadsTable ws n u
  table_kept h a m l p hm hl hp = added_other a m l p (λ q. omega arith) (omega arith) hl hp ∙ table m l p hm hl hp

  input_read_lem : (i : ℕ) → i < n → (l p : ℕ) → l < 8 → p < 64 → input_read t i 0 l p ≡ reads (reads_at ws i) l p
  input_read_lem i hi l p hl hp = rw (add-zero l, lt-ltb l 8 hl) (table i l p hi hl hp)

  input_past : (i : ℕ) → i < n → Low (reads_at ws i) → (l p : ℕ) → l < 8 → p < 64 → input_read t i 1 l p ≡ reads (past (reads_at ws i)) l p
  input_past i hi low l p hl hp = rw (add-one l, reads_past (reads_at ws i) l p) (go (ltb (suc l) 8) refl)
    where
      go : (b : Bool) → ltb (suc l) 8 ≡ b → (b && in_set (set_at t i (suc l)) p) ≡ reads (reads_at ws i) (suc l) p
      go true e = table i (suc l) p hi (ltb-true (suc l) 8 e) hp
      go false e = sym (low_none low (suc l) p (ltb-false (suc l) 8 e))

-- the columns of two lists
added_reads : {n : ℕ} {f g : ℕ → ℕ → Bool} {t u v : List (List ColumnSet)} (cs ds : List Column) → Added n f t u → Added n g u v
    → ((l p : ℕ) → l < 8 → p < 64 → f l p ≡ reads cs l p) → ((l p : ℕ) → l < 8 → p < 64 → g l p ≡ reads ds l p) → Added n (reads (cs ++ ds)) t v
added_reads cs ds a b e g = added_same (added_both a b) (λ l p hl hp. ap₂ ◌||◌ (e l p hl hp) (g l p hl hp) ∙ sym (reads_append cs ds l p))

module _ {ws : List ℕ} (accepted : Accepted ws) {n : ℕ} (h : n < nodes ws) {t : List (List ColumnSet)} (filled : Filled ws n t)
    {x : Operator} (ex : x ≡ operator_of (operator ws n)) where
  facts : NodeFacts ws n
  facts = facts_at ws accepted.formed n h

  few : n < 256
  few = node_index accepted h refl

  numbered : {y : Operator} → x ≡ y → operator ws n ≡ number_of y
  numbered = is_named ws accepted.formed n h ex

  -- a scan has none
  pub inputs_none : x ≡ Scan → Added n (reads (input_reads ws n)) t t
  inputs_none e = rw (numbered e) (added_none n (reads []) t (λ l p hl hp. refl))

  -- the others
  pub fed_one : OneInput x → operator ws n ≡ 1 → ⊥
  fed_one (inl e) q = omega (arith, numbered e)
  fed_one (inr (inl e)) q = omega (arith, numbered e)
  fed_one (inr (inr (inl e))) q = omega (arith, numbered e)
  fed_one (inr (inr (inr e))) q = omega (arith, numbered e)

  pub fed_both : (x ≡ Join) ⊎ (x ≡ Groupjoin) → operator ws n ≡ 1 → ⊥
  fed_both (inl e) q = omega (arith, numbered e)
  fed_both (inr e) q = omega (arith, numbered e)

  pub fed_past : x ≡ Dependent → operator ws n ≡ 1 → ⊥
  fed_past e q = omega (arith, numbered e)

  module _ (fed : operator ws n ≡ 1 → ⊥) {i : ℕ} (ei : i ≡ left ws n) where
    left_below : left ws n < n
    left_below = facts.left_node fed

    -- what add_input asks
    pub left_asked : (n < 256) × (i < n) × (0 ≤ 1) × Rows t
    left_asked = (few, rw ei left_below, omega arith, filled.rows)

    module _ {u : List (List ColumnSet)} (a : Added n (input_read t i 0) t u) where
      left_reads : (l p : ℕ) → l < 8 → p < 64 → input_read t i 0 l p ≡ reads (reads_at ws (left ws n)) l p
      left_reads = rw ei (input_read_lem ws n t filled.done (left ws n) left_below)

      table_then : ReadsTable ws n u
      table_then = table_kept ws n t filled.done few a

      -- a left input alone
      pub inputs_one : OneInput x → Added n (reads (input_reads ws n)) t u
      inputs_one (inl e) = rw (numbered e) (added_same a left_reads)
      inputs_one (inr (inl e)) = rw (numbered e) (added_same a left_reads)
      inputs_one (inr (inr (inl e))) = rw (numbered e) (added_same a left_reads)
      inputs_one (inr (inr (inr e))) = rw (numbered e) (added_same a left_reads)

      module _ {j : ℕ} (ej : j ≡ right ws n) where
        right_below : has_right (operator ws n) ≡ true → right ws n < n
        right_below e = facts.right_node e

        both_right : (x ≡ Join) ⊎ (x ≡ Groupjoin) → has_right (operator ws n) ≡ true
        both_right = ⊎_elim (λ q. rw (numbered q)) (λ q. rw (numbered q))

        past_right : x ≡ Dependent → has_right (operator ws n) ≡ true
        past_right q = rw (numbered q)

        pub right_asked : (x ≡ Join) ⊎ (x ≡ Groupjoin) → (n < 256) × (j < n) × (0 ≤ 1) × Rows u
        right_asked e = (few, rw ej (right_below (both_right e)), omega arith, a.rows filled.rows)

        pub past_asked : x ≡ Dependent → (n < 256) × (j < n) × (1 ≤ 1) × Rows u
        past_asked e = (few, rw ej (right_below (past_right e)), omega arith, a.rows filled.rows)

        -- two inputs
        pub inputs_both : (e : (x ≡ Join) ⊎ (x ≡ Groupjoin)) {v : List (List ColumnSet)} → Added n (input_read u j 0) u v → Added n (reads (input_reads ws n)) t v
        inputs_both e {v} b = ⊎_elim (λ (q : x ≡ Join). rw (numbered q) pair) (λ (q : x ≡ Groupjoin). rw (numbered q) pair) e
          where
            pair : Added n (reads (reads_at ws (left ws n) ++ reads_at ws (right ws n))) t v
            pair =
                added_reads (reads_at ws (left ws n)) (reads_at ws (right ws n)) a b left_reads
                (rw ej (input_read_lem ws n u table_then (right ws n) (right_below (both_right e))))

        -- a dependent join
        pub inputs_past : x ≡ Dependent → {v : List (List ColumnSet)} → Added n (input_read u j 1) u v → Added n (reads (input_reads ws n)) t v
        inputs_past e b =
            let below = right_below (past_right e) in
            rw (numbered e)
            (added_reads (reads_at ws (left ws n)) (past (reads_at ws (right ws n))) a b left_reads
            (rw ej (input_past ws n u table_then (right ws n) below (reads_low ws accepted.formed (right ws n) (omega arith)))))

-- ---- the items of a node

module _ (ws : List ℕ) (n a : ℕ) where
  pub items_none : {t : List (List ColumnSet)} → Added n (reads (each item_reads (items_from ws a 0))) t t
  items_none {t} = added_none n (reads []) t (λ l p hl hp. refl)

  -- one item more
  pub items_more : (i : ℕ) {t u v w : List (List ColumnSet)} {first second : Term} → Added n (reads (each item_reads (items_from ws a i))) t u
      → first ≡ term_of (three_at ws (a + i) 1) → Added n (reads (term_reads first)) u v
      → second ≡ term_of (three_at ws (a + i) 4) → Added n (reads (term_reads second)) v w
      → Added n (reads (each item_reads (items_from ws a (i + 1)))) t w
  items_more i {first = f} {second = s} x ef y es z = added_same (added_both x (added_both y z)) (λ l p hl hp. sym (more_reads l p))
    where
      front : List Column
      front = each item_reads (items_from ws a i)

      last : List Column
      last = item_reads (item_at ws (a + i))

      more_reads : (l p : ℕ)
          → reads (each item_reads (items_from ws a (i + 1))) l p ≡ (reads front l p || (reads (term_reads f) l p || reads (term_reads s) l p))
      more_reads l p =
          rw (
            add-one i,
            map_append (λ k. item_at ws (a + k)) (upto i) (i ∷ []),
            each_append item_reads (items_from ws a i)
                (item_at ws (a + i) ∷ []),
            append-nil last,
            ef,
            es,
          )
          (reads_append front last l p ∙ ap (λ (b : Bool). reads front l p || b) (reads_append (term_reads (term_of (three_at ws (a + i) 1))) _ l p))

-- ---- all nodes

-- a node is done
pub node_filled : (ws : List ℕ) → Accepted ws → (n : ℕ) → n < nodes ws → {t u v : List (List ColumnSet)} → Filled ws n t
    → Added n (reads (input_reads ws n)) t u → {a count i : ℕ} → a ≡ first_item ws n → count ≡ item_count ws n
    → Added n (reads (each item_reads (items_from ws a i))) u v → count ≤ i → i ≤ count → Filled ws (n + 1) v
node_filled ws accepted n h {t} {u} {v} filled inputs {a} {count} {i} ea ec items g k = record {
  rows = items.rows (inputs.rows filled.rows);
  done = λ m l p hm hl hp. go m l p hm hl hp (ltb m n) refl;
  fresh = λ m l p hm hb hl hp. before m l p (λ q. omega arith) hb hl hp ∙ filled.fresh m l p (omega arith) hb hl hp;
}
  where
    before : (m l p : ℕ) → (m ≡ n → ⊥) → m < 256 → l < 8 → p < 64 → in_set (set_at v m l) p ≡ in_set (set_at t m l) p
    before m l p d hm hl hp = added_other items m l p d hm hl hp ∙ added_other inputs m l p d hm hl hp

    few : n < 256
    few = node_index accepted h refl

    own : Added n (reads (each item_reads (items_of ws n))) u v
    own = let q : i ≡ item_count ws n = omega arith in rw (ea, q) at items

    here : (l p : ℕ) → l < 8 → p < 64 → in_set (set_at v n l) p ≡ reads (reads_at ws n) l p
    here l p hl hp =
        (added_both inputs own).each n l p few hl hp
        ∙ rw (filled.fresh n l p (omega arith) few hl hp, eq-eqb n n refl)
        (or_comm (reads (input_reads ws n) l p) (reads (each item_reads (items_of ws n)) l p)
        ∙ sym (reads_append (each item_reads (items_of ws n)) (input_reads ws n) l p)
        ∙ ap (λ (cs : List Column). reads cs l p) (sym (reads_at_lem ws accepted.formed n h)))

    go : (m l p : ℕ) → m < n + 1 → l < 8 → p < 64 → (b : Bool) → ltb m n ≡ b → in_set (set_at v m l) p ≡ reads (reads_at ws m) l p
    go m l p hm hl hp true e =
        let less = ltb-true m n e in
        before m l p (λ q. omega arith) (omega (arith, few)) hl hp ∙ filled.done m l p less hl hp
    go m l p hm hl hp false e =
        let same : m ≡ n = omega (arith, ltb-false m n e) in
        rw same (here l p hl hp)

-- none is
pub none_filled : (ws : List ℕ) → Filled ws 0 (replicate 256 (replicate 8 (record { bits = 0 })))
none_filled ws = record {
  rows = λ m hm. rw (get_or-replicate {A = List ColumnSet} 256 m (replicate 8 (record { bits = 0 })) [] hm);
  done = λ m l p hm hl hp. absurd (omega arith);
  fresh = λ m l p hm hb hl hp.
      rw (
        get_or-replicate {A = List ColumnSet} 256 m (replicate 8 (record { bits = 0 })) [] hb,
        get_or-replicate {A = ColumnSet} 8 l (record { bits = 0 }) (record { bits = 0 }) hl,
        zero-div (2 ^ p),
      );
}

-- all are
pub all_filled : (ws : List ℕ) {n count : ℕ} {t : List (List ColumnSet)} → Filled ws n t → count ≡ nodes ws → count ≤ n → ReadsTable ws (nodes ws) t
all_filled ws filled e h m l p hm hl hp = filled.done m l p (omega arith) hl hp
