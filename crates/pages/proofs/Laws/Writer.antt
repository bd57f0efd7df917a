-- Items that loops write one after the other.
use mathlib.Core.Path.{◌≡◌, refl, sym, ap, ◌∙◌}
use mathlib.Core.Bool.{Bool, true, false, cond}
use mathlib.Core.List.{List, [], ◌∷◌, ◌++◌, map, append-nil}
use Prim.Native.Nat.{ℕ, ◌+◌, ◌-◌, ◌^◌, ◌≤◌, ◌<◌}
use native.Mathlib.Omega.{arith}
use native.Mathlib.Numerals.{add-one}
use borrow.Author.Tests.{eqb-true, ne_eqb}
use lib.Dec.{eqb}
use Rattle.algebra.specs.Lists.{keep, upto}
use Rattle.algebra.specs.Domains.{below, match, span, shift}
use Rattle.algebra.proofs.Lists.Keep.{keep_append, map_append, map_map, map_cong}
use Rattle.algebra.proofs.Lists.Every.{every_of}
use Rattle.plan.proofs.Laws.Numbered.{upto_add}
use Rattle.plan.specs.Words.{Item, item_word, item_at, items_from}
use Rattle.plan.specs.Encoding.{conjunct_words, position_words, unused}
use Rattle.pages.specs.declared.page.Page.{Page}
use Rattle.pages.specs.declared.page.Three.{Three}
use Rattle.pages.specs.declared.sets.ColumnSet.{ColumnSet}
use Rattle.pages.specs.Sets.{in_set, rank, members}
use Rattle.pages.specs.Items.{item_words, shifted_words}
use Rattle.pages.specs.Pages.{Wrote, Missed}
use Rattle.pages.proofs.Laws.Pages.{wrote_then, missed_then, missed_more, wrote_as, missed_as}
use Rattle.pages.proofs.Laws.Sets.{below_members}

-- ---- a loop that writes an item for each of 0, 1, ..

-- the first of them, then others
numbers_split : (i n : ℕ) → i ≤ n → upto n ≡ upto i ++ map (λ k. i + k) (upto (n - i))
numbers_split i n g = let q : n ≡ i + (n - i) = omega arith in ap upto q ∙ upto_add i (n - i)

module _ (f : ℕ → List ℕ) {p₀ p : Page} (i : ℕ) (before : Wrote p₀ p (map f (upto i))) where
  -- one item more
  module _ (w : List ℕ) (e : w ≡ f i) where
    with_one : map f (upto i) ++ (w ∷ []) ≡ map f (upto (i + 1))
    with_one = rw (add-one i, map_append f (upto i) (i ∷ []), e)

    pub step : {q : Page} → Wrote p q (w ∷ []) → Wrote p₀ q (map f (upto (i + 1)))
    step last = wrote_as with_one (wrote_then (map f (upto i)) (w ∷ []) before last)

    -- it is too much
    pub stop : (n : ℕ) {q : Page} {new : List (List ℕ)} → i < n → map f (upto n) ≡ new → Missed p q (w ∷ []) → Missed p₀ q new
    stop n g t last =
        let others = map (λ (k : ℕ). i + 1 + k) (upto (n - (i + 1))) in
        missed_as
        (sym (map_append f (upto (i + 1)) others) ∙ ap (map f) (sym (numbers_split (i + 1) n (omega arith))) ∙ t)
        (missed_more (map f (upto (i + 1))) (map f others) (missed_as with_one (missed_then (map f (upto i)) (w ∷ []) before last)))

  -- all items written
  pub ended : (n : ℕ) {new : List (List ℕ)} → map f (upto n) ≡ new → i ≤ n → n ≤ i → Wrote p₀ p new
  ended n e g h = let q : i ≡ n = omega arith in wrote_as (rw q e) before

-- the numbers that pass a test only
module _ (f : ℕ → List ℕ) (passes : ℕ → Bool) {p₀ p : Page} (i : ℕ) (before : Wrote p₀ p (map f (keep passes (upto i)))) where
  module _ (t : Bool) (told : t ≡ passes i) where
    module _ (is : t ≡ true) (w : List ℕ) (same : w ≡ f i) where
      with_kept : map f (keep passes (upto i)) ++ (w ∷ []) ≡ map f (keep passes (upto (i + 1)))
      with_kept = rw (add-one i, keep_append passes (upto i) (i ∷ []), ← told, is, map_append f (keep passes (upto i)) (i ∷ []), same)

      pub step_kept : {q r : Page} → r ≡ q → Wrote p q (w ∷ []) → Wrote p₀ r (map f (keep passes (upto (i + 1))))
      step_kept q last = rw q (wrote_as with_kept (wrote_then (map f (keep passes (upto i))) (w ∷ []) before last))

      pub stop_kept : (n : ℕ) {q : Page} {new : List (List ℕ)} → i < n → map f (keep passes (upto n)) ≡ new → Missed p q (w ∷ []) → Missed p₀ q new
      stop_kept n g s last =
          let others = map (λ (k : ℕ). i + 1 + k) (upto (n - (i + 1))) in
          missed_as
          (sym (map_append f (keep passes (upto (i + 1))) (keep passes others))
          ∙ ap (map f) (sym (keep_append passes (upto (i + 1)) others) ∙ ap (keep passes) (sym (numbers_split (i + 1) n (omega arith)))) ∙ s)
          (missed_more (map f (keep passes (upto (i + 1)))) (map f (keep passes others))
          (missed_as with_kept (missed_then (map f (keep passes (upto i))) (w ∷ []) before last)))

    pub step_left : t ≡ false → {q : Page} → q ≡ p → Wrote p₀ q (map f (keep passes (upto (i + 1))))
    step_left is same =
        rw same (wrote_as (rw (add-one i, keep_append passes (upto i) (i ∷ []), ← told, is, append-nil (keep passes (upto i)))) before)

  pub ended_kept : (n : ℕ) {new : List (List ℕ)} → map f (keep passes (upto n)) ≡ new → i ≤ n → n ≤ i → Wrote p₀ p new
  ended_kept n e g h = let q : i ≡ n = omega arith in wrote_as (rw q e) before

-- ---- items of two local columns

-- what push_item writes
abbrev pub words_of : ℕ → Three → Three → List ℕ
words_of tag a b = tag ∷ a.code ∷ a.level ∷ a.value ∷ b.code ∷ b.level ∷ b.value ∷ []

-- what fn local gives
abbrev pub Local : Three → ℕ → Type 0
Local a p = (a.code ≡ 0) × (a.level ≡ 0) × (a.value ≡ p)

abbrev pub locals : ℕ → ℕ → ℕ → List ℕ
locals tag p q = tag ∷ 0 ∷ 0 ∷ p ∷ 0 ∷ 0 ∷ q ∷ []

pub local_words : (tag p q : ℕ) (a b : Three) → Local a p → Local b q → words_of tag a b ≡ locals tag p q
local_words tag p q a b (e, k, v) (e', k', v') = cc

-- a column by another count
pub local_same : (a : Three) (n x y : ℕ) → x ≡ y → Local a (n + x) → Local a (n + y)
local_same a n x y e h = rw e at h

-- tags 7 as words
match_words : (g h : ℕ → ℕ) (ks : List ℕ) → map (λ q. locals 7 (g q) (h q)) ks ≡ map conjunct_words (match g h ks)
match_words g h [] = refl
match_words g h (k ∷ ks) = rw (match_words g h ks)

match_same : (n : ℕ) (g h : ℕ → ℕ) (ks : List ℕ) → ((k : ℕ) → g k ≡ h k)
    → map (λ q. locals 7 q (n + g q)) ks ≡ map conjunct_words (match (λ q. q) (λ q. n + h q) ks)
match_same n g h ks e =
    map_cong _ _ (every_of {P = λ q. locals 7 q (n + g q) ≡ locals 7 q (n + h q)} (λ q. rw (e q)) ks) ∙ match_words (λ q. q) (λ q. n + h q) ks

-- ---- items that are read

-- what fn three gives
abbrev pub Reads : Three → List ℕ → ℕ → ℕ → Type 0
Reads a ws j k = (a.code ≡ item_word ws j k) × (a.level ≡ item_word ws j (k + 1)) × (a.value ≡ item_word ws j (k + 2))

pub copied_words : (ws : List ℕ) (j t : ℕ) (a b : Three) → t ≡ item_word ws j 0 → Reads a ws j 1 → Reads b ws j 4 → words_of t a b ≡ item_words (item_at ws j)
copied_words ws j t a b e (f, g, h) (f', g', h') = rw (e, f, g, h, f', g', h')

-- the column of an item, moved, but of a count
module _ (ws : List ℕ) (j t d p : ℕ) where
  pub column_moved : (x : ℕ) → (t ≡ 13 → ⊥) → x ≡ item_word ws j 3 → p ≡ d + x → p ≡ cond (eqb t 13) 0 (d + item_word ws j 3)
  column_moved x f e q = rw (ne_eqb t 13 f, ← e) q

  pub column_none : t ≡ 13 → p ≡ 0 → p ≡ cond (eqb t 13) 0 (d + item_word ws j 3)
  column_none e q = rw e q

module _ (ws : List ℕ) (j t d p : ℕ) (e : t ≡ item_word ws j 0) where
  pub shifted_words_lem : (a b : Three) → Local a p → Local b 0 → p ≡ cond (eqb t 13) 0 (d + item_word ws j 3) → words_of t a b ≡ shifted_words d (item_at ws j)
  unfolding shifted_words
  shifted_words_lem a b f g h = local_words t p 0 a b f g ∙ rw (h, ← e) (go (eqb t 13) refl)
    where
      go : (b : Bool) → eqb t 13 ≡ b → locals t (cond b 0 (d + item_word ws j 3)) 0 ≡ cond b (13 ∷ (unused ++ unused)) (position_words t (d + item_word ws j 3))
      go true q = rw (eqb-true t 13 q)
      go false q = refl

-- ---- what each loop writes in all

pub matches_all : (n d : ℕ) → map (λ q. locals 7 q (n + q)) (upto d) ≡ map conjunct_words (match (λ q. q) (λ q. n + q) (upto d))
matches_all n d = match_words (λ q. q) (λ q. n + q) (upto d)

pub columns_all : (tag a n : ℕ) → map (λ q. locals tag (a + q) 0) (upto n) ≡ map (position_words tag) (span a n)
columns_all tag a n = sym (map_map (position_words tag) (shift a) (upto n))

pub items_all : (g : Item → List ℕ) (ws : List ℕ) (a n : ℕ) → map (λ k. g (item_at ws (a + k))) (upto n) ≡ map g (items_from ws a n)
items_all g ws a n = sym (map_map g (λ k. item_at ws (a + k)) (upto n))

pub set_matches_all : (set : ColumnSet) (n : ℕ) → set.bits < 2 ^ 64 → map (λ k. locals 7 k (n + rank set k)) (keep (in_set set) (upto 64))
    ≡ map conjunct_words (match (λ k. k) (λ k. n + below (members set) k) (members set))
set_matches_all set n f = match_same n (rank set) (below (members set)) (members set) (λ k. sym (below_members set k f))
