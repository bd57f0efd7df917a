-- distinct keeps one of each row.
use mathlib.Core.Path.{◌∙◌, ◌≡◌, ap, refl, sym}
use mathlib.Core.Bool.{Bool, ◌&&◌, and_comm, cond, false, not, true}
use mathlib.Core.List.{List, [], ◌∷◌, map}
use Rattle.algebra.specs.Lists.{Every, done, keep, more}
use Rattle.algebra.specs.Value.{Row, same_row}
use Rattle.algebra.specs.Operators.{distinct}
use Rattle.algebra.proofs.Lists.Every.{every_keep, every_kept, every_map, every_of}
use Rattle.algebra.proofs.Lists.Keep.{keep_all, keep_keep, keep_map, keep_none, keep_same, keep_swap}
use Rattle.algebra.proofs.Lists.Same.{differ, same_eq, same_refl}

-- ---- distinct

pub keep_distinct : (p : Row → Bool) (xs : List Row) → keep p (distinct xs) ≡ distinct (keep p xs)
keep_distinct p [] = refl
keep_distinct p (x ∷ xs) = go (p x) refl (keep_distinct p xs)
  where
    others : Row → Bool
    others y = not (same_row x y)

    go : (b : Bool) → p x ≡ b → keep p (distinct xs) ≡ distinct (keep p xs)
        → cond b (x ∷ keep p (keep others (distinct xs))) (keep p (keep others (distinct xs))) ≡ distinct (cond b (x ∷ keep p xs) (keep p xs))
    go true e h = rw (keep_swap p others (distinct xs), h)
    go false e h =
        rw (keep_swap p others (distinct xs), h)
        (keep_all others (rw h at (every_map (λ y (t : p y ≡ true). ap not (differ p x y e t)) (every_kept p (distinct xs)))))

pub distinct_map : (f : Row → Row) → ((a b : Row) → same_row (f a) (f b) ≡ same_row a b) → (xs : List Row) → distinct (map f xs) ≡ map f (distinct xs)
distinct_map f h [] = refl
distinct_map f h (x ∷ xs) = rw (distinct_map f h xs, keep_map) (simp h)

pub every_distinct : {P : Row → Type 0} {xs : List Row} → Every P xs → Every P (distinct xs)
every_distinct done = done
every_distinct (more h t) = more h (every_keep _ (every_distinct t))

-- a row of a list stands once among its distinct rows
abbrev pub Once : List Row → Row → Type 0
Once ks k = keep (λ y. same_row k y) ks ≡ k ∷ []

none_left : (x : Row) (ys : List Row) → keep (λ y. same_row x y) (keep (λ y. not (same_row x y)) ys) ≡ []
none_left x ys = keep_keep _ _ ys ∙ keep_none (λ y. ((not (same_row x y)) && (same_row x y))) (every_of (λ y. go (same_row x y)) ys)
  where
    go : (b : Bool) → ((not b) && b) ≡ false
    go true = refl
    go false = refl

once_here : (x : Row) (ys : List Row) → Once (x ∷ keep (λ y. not (same_row x y)) ys) x
once_here x ys = rw (same_refl x, none_left x ys)

once_there : (x y : Row) (ys : List Row) → Once ys x → Once (y ∷ keep (λ z. not (same_row y z)) ys) x
once_there x y ys h = go (same_row x y) refl
  where
    apart : same_row x y ≡ false → (z : Row) (b : Bool) → same_row x z ≡ b → ((not (same_row y z)) && b) ≡ b
    apart e z true t = rw (differ (λ w. same_row x w) y z e t)
    apart e z false t = and_comm (not (same_row y z)) false

    go : (b : Bool) → same_row x y ≡ b
        → cond b (y ∷ keep (λ z. same_row x z) (keep (λ z. not (same_row y z)) ys)) (keep (λ z. same_row x z) (keep (λ z. not (same_row y z)) ys)) ≡ x ∷ []
    go true e = rw (sym (same_eq x y e), none_left x ys)
    go false e = keep_keep _ _ ys ∙ keep_same _ (λ z. same_row x z) ys (λ z. apart e z (same_row x z) refl) ∙ h

pub once_distinct : (xs : List Row) → Every (Once (distinct xs)) xs
once_distinct [] = done
once_distinct (x ∷ xs) = more (once_here x (distinct xs)) (every_map (λ y h. once_there y x (distinct xs) h) (once_distinct xs))
