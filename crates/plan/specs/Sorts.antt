-- The sorts of items, by which the code goes through a node's list.
use Rattle.std.specs.Prelude.{◌≡◌, Bool, true, false, cond, ◌&&◌, ℕ, eqb, Result, MatchResult}
use Rattle.plan.specs.declared.sorts.Sort.{Sort}
use Rattle.plan.specs.declared.sorts.Sort.TheVariants.{Conjunct, Computation, Key, Output, Aggregate}
use Rattle.plan.specs.declared.sorts.UnknownTag.{UnknownTag}
use Rattle.plan.specs.Words.{Item}
use Rattle.plan.specs.Items.{between, term_right, is_local, is_unused, conjunct_right, computation_right, key_right, output_right, aggregate_right}

-- "Conjunct tags: 1 .. 7"; "Computations: 8 copy .., 9 add, 10 subtract. 11 key, 12 output column, 13 count, 14 sum, 15 min, 16 max."
abbrev pub has_tag : Sort → ℕ → Bool
has_tag Conjunct t = between 1 7 t
has_tag Computation t = between 8 10 t
has_tag Key t = eqb t 11
has_tag Output t = eqb t 12
has_tag Aggregate t = between 13 16 t

abbrev pub is_of : Sort → Item → Bool
is_of s x = has_tag s x.tag

-- the sort of a tag, where it has one
abbrev pub Tagged : ℕ → Result Sort UnknownTag → Type 0
Tagged t r = MatchResult r (λ s. has_tag s t ≡ true) (λ e. between 1 16 t ≡ false)

-- what follows the tag of a computation, of a key or an output column, and of an aggregate
abbrev pub computation_terms_right : Item → Bool
computation_terms_right x = term_right x.first && cond (eqb x.tag 8) (is_unused x.second) (term_right x.second)

abbrev pub column_terms_right : Item → Bool
column_terms_right x = is_local x.first && is_unused x.second

abbrev pub aggregate_terms_right : Item → Bool
aggregate_terms_right x = cond (eqb x.tag 13) (is_unused x.first) (is_local x.first) && is_unused x.second

-- a well-formed item of a sort
abbrev pub right_of : Sort → Item → Bool
right_of Conjunct x = conjunct_right x
right_of Computation x = computation_right x
right_of Key x = key_right x
right_of Output x = output_right x
right_of Aggregate x = aggregate_right x
