-- Terms and items whose columns moved, as words.
use mathlib.Core.Path.{◌≡◌, refl, sym, ap, subst, ◌∙◌}
use mathlib.Core.Bool.{Bool, true, false, cond}
use mathlib.Core.List.{List, [], ◌∷◌, ◌++◌}
use Prim.Native.Nat.{ℕ, ◌^◌, ◌<◌}
use native.Mathlib.Omega.{arith}
use lib.IntN.{ℤ}
use lib.Dec.{leb, eqb}
use borrow.Author.Tests.{leb-true, eqb-true, ne_eqb}
use Rattle.algebra.specs.Plan.{Term, column, outer, constant, nothing}
use Rattle.algebra.specs.Domains as algebra
use Rattle.plan.specs.Words.{Three, Item}
use Rattle.plan.specs.Items.{signed, term_of, term_right}
use Rattle.plan.specs.Encoding.{term_words}
use Rattle.plan.proofs.Laws.Restored.{three_again}
use Rattle.plan.proofs.Laws.Written.{three_of}
use Rattle.pages.specs.declared.page.Three as code
use Rattle.pages.specs.Items.{moved_words, Small, Near}
use Rattle.pages.proofs.Laws.Writer.{Local, words_of}

-- ---- a term

-- the code's term has the words of t
abbrev pub Same : code.Three → Three → Type 0
Same a t = (a.code ≡ t.code) × (a.level ≡ t.level) × (a.value ≡ t.value)

abbrev pub three_words : code.Three → List ℕ
three_words a = a.code ∷ a.level ∷ a.value ∷ []

-- the words of a term
words_of_lem : (m : Term) → ((three_of m).code ∷ (three_of m).level ∷ (three_of m).value ∷ []) ≡ term_words m
words_of_lem (column p) = refl
words_of_lem (outer l p) = refl
words_of_lem (constant z) = refl
words_of_lem nothing = refl

module _ (t : Three) (right : term_right t ≡ true) {m : Term} (e : m ≡ term_of t) where
  -- what a decoded term means is near, where its words are
  pub term_near : Small t → Near m
  unfolding term_of term_right
  term_near small = subst Near (sym e) (go (eqb t.code 0) refl (eqb t.code 1) refl (eqb t.code 2))
    where
      go : (a : Bool) → eqb t.code 0 ≡ a → (b : Bool) → eqb t.code 1 ≡ b → (c : Bool)
          → Near (cond a (column t.value) (cond b (outer t.level t.value) (cond c (constant (signed t.value)) nothing)))
      go true p b q c = small (omega (arith, eqb-true t.code 0 p))
      go false p true q c =
          let g : leb t.level 7 ≡ true = rw q at right in
          (omega (arith, leb-true t.level 7 g), small (omega (arith, eqb-true t.code 1 q)))
      go false p false q true = tt
      go false p false q false = tt

  -- and its words are those that stand
  pub term_stands : (a : code.Three) → Same a t → a.value < 2 ^ 32 → three_words a ≡ term_words m
  term_stands a s v =
      rw (s.0, s.1, s.2, e)
      (ap (λ (x : Three). x.code ∷ x.level ∷ x.value ∷ []) (sym (three_again t right (rw s.2 at v))) ∙ words_of_lem (term_of t))

module _ (D : algebra.Domain) (f : ℕ → ℕ) (r : code.Three) where
  -- by what it is
  pub moved_local : {m : Term} (p q : ℕ) → m ≡ column p → q ≡ f p → Local r q → three_words r ≡ term_words (algebra.move_term D f m)
  moved_local p q e g (x, y, z) = rw (e, x, y, z, g)

  pub moved_outer : {m : Term} (l p q : ℕ) → m ≡ outer l p → q ≡ D.place l p → Local r q → three_words r ≡ term_words (algebra.move_term D f m)
  moved_outer l p q e g (x, y, z) = rw (e, x, y, z, g)

  pub moved_constant : {m : Term} (k : ℤ) → m ≡ constant k → three_words r ≡ term_words m → three_words r ≡ term_words (algebra.move_term D f m)
  moved_constant k e w = rw e (w ∙ ap term_words e)

  pub moved_null : {m : Term} → m ≡ nothing → three_words r ≡ term_words m → three_words r ≡ term_words (algebra.move_term D f m)
  moved_null e w = rw e (w ∙ ap term_words e)

-- ---- an item

module _ (D : algebra.Domain) (f : ℕ → ℕ) (x : Item) (t : ℕ) (a b : code.Three) (e : t ≡ x.tag)
    (g : three_words a ≡ term_words (algebra.move_term D f (term_of x.first))) where
  moved_first : (second : List ℕ) → three_words b ≡ second → words_of t a b ≡ x.tag ∷ (term_words (algebra.move_term D f (term_of x.first)) ++ second)
  moved_first second h = rw (← e, ← g, ← h)

  -- a copy has no second term
  pub moved_copy : t ≡ 8 → Local b 0 → words_of t a b ≡ moved_words D f x
  unfolding moved_words
  moved_copy q (k, l, v) = let r : x.tag ≡ 8 = sym e ∙ q in moved_first _ (rw (k, l, v, r))

  pub moved_both : (t ≡ 8 → ⊥) → three_words b ≡ term_words (algebra.move_term D f (term_of x.second)) → words_of t a b ≡ moved_words D f x
  unfolding moved_words
  moved_both q h = moved_first _ (rw (ne_eqb x.tag 8 (λ r. q (e ∙ r))) h)
