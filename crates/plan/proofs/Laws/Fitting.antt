-- The constants that words say fit a word.
use mathlib.Core.Path.{◌≡◌, refl}
use mathlib.Core.Bool.{Bool, true, false, cond}
use mathlib.Core.List.{List, [], ◌∷◌}
use Prim.Native.Nat.{ℕ, ◌+◌, ◌^◌, ◌<◌}
use native.Mathlib.Omega.{arith}
use lib.Dec.{ltb, eqb}
use borrow.Author.Tests.{ltb-true, ltb-false}
use Rattle.algebra.specs.Lists.{upto, each, Every, done, more}
use Rattle.algebra.specs.Plan.{constant, Computation, Kind, Node}
use Rattle.algebra.proofs.Lists.Every.{every_of, every_map, every_keep, every_mapped, every_each, every_at}
use Rattle.plan.specs.Words.{Three, Item, word, nodes, first_item, item_count, item_at, items_of}
use Rattle.plan.specs.Items.{is_conjunct, signed, term_of, conjunct_of, computation_of, conjuncts_in}
use Rattle.plan.specs.Plan.{computation_in, node_for, node_at, nodes_of}
use Rattle.plan.specs.Encoding.{StorableTerm, conjunct_terms, computation_terms, terms_of, Storable}
use Rattle.plan.proofs.Laws.Restored.{Narrow}

-- one of two
either : {A : Type 0} (P : A → Type 0) (b : Bool) {x y : A} → P x → P y → P (cond b x y)
either P true p q = p
either P false p q = q

-- what a word, a term, conjuncts, a computation and a node say can be written
constant_fits : (x : ℕ) → x < 2 ^ 32 → StorableTerm (constant (signed x))
unfolding signed
constant_fits x h = go (ltb x (2 ^ 31)) refl
  where
    go : (b : Bool) → ltb x (2 ^ 31) ≡ b → StorableTerm (constant (signed x))
    go true e = rw e (ltb-true x (2 ^ 31) e)
    go false e = rw e (omega (arith, ltb-false x (2 ^ 31) e))

term_fits : (t : Three) → t.value < 2 ^ 32 → StorableTerm (term_of t)
unfolding term_of
term_fits t h =
    either StorableTerm (eqb t.code 0) tt
    (either StorableTerm (eqb t.code 1) tt (either StorableTerm (eqb t.code 2) (constant_fits t.value h) tt))

conjuncts_fit : {xs : List Item} → Every Narrow xs → Every StorableTerm (each conjunct_terms (conjuncts_in xs))
conjuncts_fit h =
    every_each conjunct_terms
    (every_mapped conjunct_of
    (every_map (λ x g. more (term_fits x.first g.0) (more (term_fits x.second g.1) done)) (every_keep is_conjunct h)))

-- every term of a computation can be written
Fits : Computation → Type 0
Fits c = Every StorableTerm (computation_terms c)

computation_fits : (xs : List Item) → Every Narrow xs → Fits (computation_in xs)
unfolding Fits computation_of
computation_fits [] h = more tt done
computation_fits (x ∷ xs) (more g h) =
    let a = term_fits x.first g.0 in
    let b = term_fits x.second g.1 in
    either Fits (eqb x.tag 8) (more a done) (either Fits (eqb x.tag 9) (more a (more b done)) (more a (more b done)))

node_fits : (o l r : ℕ) (k : Kind) (xs : List Item) → Every Narrow xs → Every StorableTerm (terms_of (node_for o l r k xs))
unfolding node_for Fits
node_fits o l r k xs h =
    either Node-fits (eqb o 1) done
    (either Node-fits (eqb o 2) cs
    (either Node-fits (eqb o 3) (computation_fits xs h)
    (either Node-fits (eqb o 4) done
    (either Node-fits (eqb o 5) cs
    (either Node-fits (eqb o 6) done
    (either Node-fits (eqb o 7) cs cs))))))
  where
    Node-fits : Node → Type 0
    Node-fits n = Every StorableTerm (terms_of n)

    cs : Every StorableTerm (each conjunct_terms (conjuncts_in xs))
    cs = conjuncts_fit h

module _ (ws : List ℕ) (small : Every (λ w. w < 2 ^ 32) ws) where
  -- every word that is read is below 2^32
  pub word_small : (i : ℕ) → word ws i < 2 ^ 32
  unfolding word
  word_small i = every_at 0 (omega arith) small i

  -- the values in the items of a node are below 2^32
  pub narrow : (n : ℕ) → Every Narrow (items_of ws n)
  narrow n = every_mapped (λ i. item_at ws (first_item ws n + i)) (every_of (λ i. (word_small _, word_small _)) (upto (item_count ws n)))

  -- every node can be written
  pub storable : Storable (nodes_of ws)
  storable = every_mapped (node_at ws) (every_of (λ n. node_fits _ _ _ _ (items_of ws n) (narrow n)) (upto (nodes ws)))
