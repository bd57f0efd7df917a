-- The verdict, refusal by refusal, and what is known past each.
use mathlib.Core.Path.{◌≡◌, sym, ◌∙◌}
use mathlib.Core.Bool.{Bool, true, false, not}
use mathlib.Core.List.{List}
use Prim.Native.Nat.{ℕ, ◌≤◌, ◌<◌}
use native.Mathlib.Omega.{arith}
use lib.ListN.{get_or}
use borrow.Author.Tests.{lt-ltb, le-ltb, ltb-false, not-false}
use Rattle.algebra.proofs.Lists.Every.{every_map}
use Rattle.algebra.proofs.Lists.Keep.{keep_none}
use Rattle.algebra.proofs.Domains.Keys.{upto_below}
use Rattle.plan.specs.Words.{nodes}
use Rattle.plan.specs.Verdict.{Answer, accepted, lowest, header_right, limits_right, node_right, is_unused_node, width_at, is_too_wide}
use Rattle.plan.specs.Verdict.{is_open_twice, columns_right, or_else, verdict}
use Rattle.plan.specs.Promise.{Sized, Formed, Accepted}
use Rattle.plan.specs.Passes.{Measured, Widths, first}
use Rattle.plan.proofs.Laws.First.{first_some, first_none}
use Rattle.std.specs.Prelude.{Some, None}
use Rattle.plan.proofs.Laws.Loops.{lowest_not, lowest_none}

-- refusal k at the lowest fault, or what comes after it
module _ (k : ℕ) (fault : ℕ → Bool) (bound : ℕ) (rest : Answer) where
  -- a fault was found
  pub refused_here : (n : ℕ) → n ≡ lowest fault bound → n < bound → record { number = k; node = n } ≡ or_else k fault bound rest
  refused_here n e h = rw (sym e, lt-ltb n bound h)

  -- no fault was found
  pub refused_later : (n : ℕ) → n ≡ lowest fault bound → bound ≤ n → rest ≡ or_else k fault bound rest
  refused_later n e h = rw (sym e, le-ltb n bound h)

-- the same, where the code found the first fault or none
module _ (k : ℕ) (fault : ℕ → Bool) (bound : ℕ) (rest : Answer) where
  found : {n : ℕ} → Some n ≡ first fault bound → record { number = k; node = n } ≡ or_else k fault bound rest
  found {n} e = let s = first_some fault bound e in refused_here k fault bound rest n s.0 s.1

  not_found : None ≡ first fault bound → rest ≡ or_else k fault bound rest
  not_found e = refused_later k fault bound rest bound (first_none fault bound e) (omega arith)

module _ (ws : List ℕ) where
  -- what is left to answer from refusal 7, 6, 5, 4 and 3 on
  abbrev pub from7 : Answer
  from7 = or_else 7 (λ n. not (columns_right ws n)) (nodes ws) accepted

  abbrev pub from6 : Answer
  from6 = or_else 6 (is_open_twice ws) (nodes ws) from7

  abbrev pub from5 : Answer
  from5 = or_else 5 (is_too_wide ws) (nodes ws) from6

  abbrev pub from4 : Answer
  from4 = or_else 4 (is_unused_node ws) (nodes ws) from5

  abbrev pub from3 : Answer
  from3 = or_else 3 (λ n. not (node_right ws n)) (nodes ws) from4

  pub refused_header : header_right ws ≡ false → record { number = 1; node = 0 } ≡ verdict ws
  unfolding verdict
  refused_header e = rw e

  pub refused_limits : header_right ws ≡ true → limits_right ws ≡ false → record { number = 2; node = 0 } ≡ verdict ws
  unfolding verdict
  refused_limits e f = rw (e, f)

  -- past refusals 1 and 2
  pub past_limits : Sized ws → from3 ≡ verdict ws
  unfolding verdict
  past_limits s = rw (s.header, s.limits)

  -- the refusals in their order
  module _ (s : Sized ws) where
    pub refused_malformed : {n : ℕ} → Some n ≡ first (λ m. not (node_right ws m)) (nodes ws) → record { number = 3; node = n } ≡ verdict ws
    refused_malformed e = found 3 (λ m. not (node_right ws m)) (nodes ws) from4 e ∙ past_limits s

    module _ (none_malformed : None ≡ first (λ m. not (node_right ws m)) (nodes ws)) where
      past3 : from4 ≡ verdict ws
      past3 = not_found 3 (λ m. not (node_right ws m)) (nodes ws) from4 none_malformed ∙ past_limits s

      pub refused_unused : {n : ℕ} → Some n ≡ first (is_unused_node ws) (nodes ws) → record { number = 4; node = n } ≡ verdict ws
      refused_unused e = found 4 (is_unused_node ws) (nodes ws) from5 e ∙ past3

      module _ (none_unused : None ≡ first (is_unused_node ws) (nodes ws)) where
        past4 : from5 ≡ verdict ws
        past4 = not_found 4 (is_unused_node ws) (nodes ws) from5 none_unused ∙ past3

        pub refused_wide : {n : ℕ} → n ≡ lowest (is_too_wide ws) (nodes ws) → n < nodes ws → record { number = 5; node = n } ≡ verdict ws
        refused_wide {n} e h = refused_here 5 (is_too_wide ws) (nodes ws) from6 n e h ∙ past4

        module _ {narrow : ℕ} (is_narrow : narrow ≡ lowest (is_too_wide ws) (nodes ws)) (none_wide : nodes ws ≤ narrow) where
          past5 : from6 ≡ verdict ws
          past5 = refused_later 5 (is_too_wide ws) (nodes ws) from6 narrow is_narrow none_wide ∙ past4

          pub refused_twice : {n : ℕ} → Some n ≡ first (is_open_twice ws) (nodes ws) → record { number = 6; node = n } ≡ verdict ws
          refused_twice e = found 6 (is_open_twice ws) (nodes ws) from7 e ∙ past5

          module _ (none_twice : None ≡ first (is_open_twice ws) (nodes ws)) where
            past6 : from7 ≡ verdict ws
            past6 = not_found 6 (is_open_twice ws) (nodes ws) from7 none_twice ∙ past5

            pub refused_missing : {n : ℕ} → Some n ≡ first (λ m. not (columns_right ws m)) (nodes ws) → record { number = 7; node = n } ≡ verdict ws
            refused_missing e = found 7 (λ m. not (columns_right ws m)) (nodes ws) accepted e ∙ past6

            pub not_refused : None ≡ first (λ m. not (columns_right ws m)) (nodes ws) → accepted ≡ verdict ws
            not_refused e = not_found 7 (λ m. not (columns_right ws m)) (nodes ws) accepted e ∙ past6

  -- ---- what is known past a refusal

  -- past refusal 3 the slice is well formed
  pub formed : Sized ws → None ≡ first (λ m. not (node_right ws m)) (nodes ws) → Formed ws
  formed s e = record {
    sized = s;
    formed = λ m l. not-false (node_right ws m) (lowest_not (λ i. not (node_right ws i)) (nodes ws) (omega (arith, first_none (λ i. not (node_right ws i)) (nodes ws) e)) m l);
  }

  -- every width is worked out, and within 64
  pub all_measured : (rows : List ℕ) (narrow : ℕ) → Measured ws rows narrow → nodes ws ≤ narrow → Widths ws rows
  all_measured rows narrow m h i l = m.each i (omega arith)

  -- no width is above 64
  pub all_narrow : (rows : List ℕ) (narrow : ℕ) → Measured ws rows narrow → nodes ws ≤ narrow → (i : ℕ) → i < nodes ws → get_or rows i 0 ≤ 64
  all_narrow rows narrow m h i l =
      rw (m.each i (omega arith)) (ltb-false 64 (width_at ws i) (lowest_not (is_too_wide ws) (nodes ws) (rw m.first at h) i l))

-- what the check needs at each of its refusals and calls
pub ruleset refusals = (formed, refused_header, refused_limits, refused_malformed, refused_unused, refused_wide, refused_twice, refused_missing, not_refused, all_measured, all_narrow)

-- the widths of an accepted plan are all worked out, since none is over 64
pub widths_all : (ws rows : List ℕ) (narrow : ℕ) → Accepted ws → Measured ws rows narrow → Widths ws rows
widths_all ws rows narrow a m = all_measured ws rows narrow m (omega (arith, m.first, none_wide))
  where
    none_wide : nodes ws ≡ lowest (is_too_wide ws) (nodes ws)
    none_wide =
        lowest_none (is_too_wide ws) (nodes ws)
        (keep_none (is_too_wide ws) (every_map (λ n h. le-ltb 64 (width_at ws n) (a.narrow n h)) (upto_below (nodes ws))))
