use native.Mathlib.Omega.{arith}
use Rattle.plan.proofs.Laws.Verdict.{widths_all}
use Rattle.plan.proofs.Promise.{promise}
use Rattle.rewrite.specs.declared.RewriteRefusal.TheVariants.{OverLimits}
use Rattle.rewrite.proofs.Laws.Answer.{err_is, refused_over, few_words, refused_room, written}
use Rattle.rewrite.proofs.rewrite_accepted.Goals as goal

pub work_out_widths-widths-requires : goal.work_out_widths-widths-requires
work_out_widths-widths-requires c = (promise _ c.requires).formed

pub work_out_reaches-reaches-requires : goal.work_out_reaches-reaches-requires
work_out_reaches-reaches-requires c = (promise _ c.requires).formed

pub work_out_reads-reads-requires : goal.work_out_reads-reads-requires
work_out_reads-reads-requires c = promise _ c.requires

pub rewrite_nodes-requires : goal.rewrite_nodes-requires
rewrite_nodes-requires c = let a = promise _ c.requires in (
  record {
    accepted = a;
    reaches = c.work_out_reaches-reaches.ensures.reaches;
    widths = widths_all _ _ c.work_out_widths-widths.result.narrow a c.work_out_widths-widths.ensures;
    reads = c.work_out_reads-reads.ensures;
  },
  c.new-page.ensures _,
)

pub returns-in_err-rewrite_nodes : goal.returns-in_err-rewrite_nodes
returns-in_err-rewrite_nodes c =
    let refused = refused_over c.args.words.now c.requires c.args.out.now c.in_err-rewrite_nodes.ensures in
    rw (err_is c.from_residual.result OverLimits c.from_residual.ensures.1) (record { result_value = refused.0; out_after = refused.1 })

pub returns-then-out-total : goal.returns-then-out-total
returns-then-out-total c =
    let refused = refused_room c.args.words.now c.requires _ c.in_ok-rewrite_nodes.ensures _ c.total_words-total.ensures c.args.out.now (omega arith) in
    record { result_value = refused.0; out_after = refused.1 }

pub write_table-requires : goal.write_table-requires
write_table-requires c =
    let few = few_words c.args.words.now c.requires _ c.in_ok-rewrite_nodes.ensures in
    (few.0, few.1, few.2, few.3, omega arith)

pub overflow_cast-count : goal.overflow_cast-count
overflow_cast-count c =
    let few = few_words c.args.words.now c.requires _ c.in_ok-rewrite_nodes.ensures in
    omega (arith, c.total_words-total.ensures)

pub returns : goal.returns
returns c =
    let all_written = written c.args.words.now c.requires _ c.in_ok-rewrite_nodes.ensures _ c.total_words-total.ensures _ (omega arith) c.args.out.now _
    (omega (arith, c.if-out-total.false)) c.write_table.ensures in
    record { result_value = all_written.0; out_after = all_written.1 }
