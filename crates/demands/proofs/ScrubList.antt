-- The words of plan S decode to the plan of the proved cases, and have the text that README shows: by computation.
use mathlib.Core.Path.{refl}
use Rattle.plan.specs.Words.{word}
use Rattle.plan.specs.Items.{signed, term_of, test_of, computation_of, aggregate_of, term_right}
use Rattle.plan.specs.Plan.{kind_of, node_for}
use Rattle.plan.specs.Verdict.{header_right, limits_right, items_right, items_before, inputs_right, kind_right, count_right, node_right, term_there, computation_there, aggregate_there, columns_there, scope, columns_right, verdict}
use Rattle.text.specs.Numbers.{digits, decimal, signed as signed_number}
use Rattle.text.specs.Text.{line, text_of}
use Rattle.text.specs.Examples.{bytes}
use Rattle.demands.specs.ScrubList.{Decoded, Written}

pub decoded : Decoded
unfolding word signed term_of test_of computation_of aggregate_of term_right kind_of node_for header_right limits_right items_right items_before inputs_right kind_right count_right node_right term_there computation_there aggregate_there columns_there scope columns_right verdict
decoded = record { long = refl; widths = refl; nodes = refl; passes = refl }

pub written : Written
unfolding word digits decimal signed_number line text_of bytes
written = refl
