-- Grouping under a domain: by the domain's columns first.
use mathlib.Core.Path.{◌∙◌, ◌≡◌, ap}
use mathlib.Core.Bool.{Bool, ◌&&◌, true}
use mathlib.Core.List.{List, ◌++◌, append_assoc, map}
use Prim.Native.Nat.{◌≤◌, ℕ}
use native.Mathlib.Omega.{arith}
use lib.ListN.{drop, length, length-append, length-map, take}
use lib.Seq.{drop_at, length-take-le, take-append-le, take_at}
use Rattle.algebra.specs.Lists.{Every, keep, upto}
use Rattle.algebra.specs.Value.{Row, same_row}
use Rattle.algebra.specs.Plan.{Aggregate}
use Rattle.algebra.specs.Operators.{aggregates, distinct, groups_by, picked}
use Rattle.algebra.specs.Domains.{move_aggregate, shift}
use Rattle.algebra.proofs.Lists.Every.{every_both, every_keep, every_kept, every_map, every_mapped, every_of}
use Rattle.algebra.proofs.Lists.Keep.{keep_cong, keep_keep, keep_map, map_cong, map_map}
use Rattle.algebra.proofs.Lists.Same.{same_append, same_eq, same_front}
use Rattle.algebra.proofs.Lists.Distinct.{distinct_map, every_distinct, keep_distinct}
use Rattle.algebra.proofs.Columns.Picked.{length_upto, picked_split}
use Rattle.algebra.proofs.Columns.Moved.{aggregates_under}
use Rattle.algebra.proofs.Domains.Part.{part}

module _ (d : ℕ) (k : Row) (lk : length k ≡ d) (ks : List ℕ) (gs : List Aggregate) (xs : List Row) (deep : Every (λ x. d ≤ length x) xs) where
  abbrev begins : Row → Bool
  begins x = same_row k (take d x)

  abbrev keys : List ℕ
  keys = upto d ++ map (shift d) ks

  -- the key of a row under the domain, with the domain's columns compared first
  same_key_lem : (K x : Row) → d ≤ length x → same_row (k ++ K) (picked keys x) ≡ ((begins x) && (same_row K (picked ks (drop d x))))
  same_key_lem K x h = rw (picked_split d ks x h) (same_append k (take d x) K _ (rw (length-take-le d x h) lk))

  -- the rows of a group
  group_rows : (K : Row) → map (drop d) (keep (λ x. same_row (k ++ K) (picked keys x)) xs) ≡ keep (λ r. same_row K (picked ks r)) (part d k xs)
  group_rows K =
      rw (keep_map, keep_keep (λ x. same_row K (picked ks (drop d x))) begins xs)
      (ap (map (drop d)) (keep_cong _ (λ x. ((begins x) && (same_row K (picked ks (drop d x))))) (every_map (λ x h. same_key_lem K x h) deep)))

  begins_key : (x : Row) → d ≤ length x → begins (picked keys x) ≡ begins x
  begins_key x h = rw (picked_split d ks x h, take_at (take d x) (picked ks (drop d x)) d (length-take-le d x h))

  split_key : (x : Row) → (begins x ≡ true) × (d ≤ length x) → picked keys x ≡ k ++ picked ks (drop d x)
  split_key x h = rw (picked_split d ks x h.1, same_eq k (take d x) h.0)

  key_rows : keep begins (map (picked keys) xs) ≡ map (λ K. k ++ K) (map (picked ks) (part d k xs))
  key_rows =
      keep_map begins (picked keys) xs
      ∙ ap (map (picked keys)) (keep_cong _ begins (every_map begins_key deep))
      ∙ map_cong (picked keys) (λ x. k ++ picked ks (drop d x)) (every_map split_key (every_both (every_kept begins xs) (every_keep begins deep)))
      ∙ simp map_map

  group_keys : keep begins (distinct (map (picked keys) xs)) ≡ map (λ K. k ++ K) (distinct (map (picked ks) (part d k xs)))
  group_keys =
      keep_distinct begins (map (picked keys) xs) ∙ ap distinct key_rows ∙ distinct_map (λ K. k ++ K) (λ a b. same_front k a b) (map (picked ks) (part d k xs))

  abbrev found : List Row
  found = distinct (map (picked ks) (part d k xs))

  abbrev row : Row → Row
  row K = K ++ aggregates (map (move_aggregate (shift d)) gs) (keep (λ x. same_row K (picked keys x)) xs)

  -- a key is as long as the domain is wide
  deep_keys : Every (λ K. begins (row K) ≡ begins K) (distinct (map (picked keys) xs))
  deep_keys = every_distinct (every_mapped (picked keys) (every_map (λ x (h : d ≤ length x). rw (take-append-le d (picked keys x) _ (simp (length-map, length-append, length_upto) (omega arith)))) deep))

  row_under : (K : Row) → drop d (row (k ++ K)) ≡ K ++ aggregates gs (keep (λ r. same_row K (picked ks r)) (part d k xs))
  row_under K = rw (append_assoc, drop_at k _ d lk, aggregates_under, group_rows K)

  pub under_group : part d k (groups_by keys (map (move_aggregate (shift d)) gs) xs) ≡ groups_by ks gs (part d k xs)
  under_group =
      ap (map (drop d)) (keep_map begins row (distinct (map (picked keys) xs)) ∙ ap (map row) (keep_cong _ begins deep_keys ∙ group_keys))
      ∙ ap (map (drop d)) (map_map row (λ K. k ++ K) found)
      ∙ map_map (drop d) (λ K. row (k ++ K)) found
      ∙ map_cong _ _ (every_of row_under found)
