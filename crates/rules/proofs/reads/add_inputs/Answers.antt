use Rattle.rules.proofs.Laws.Reads.{fed_one, fed_both, fed_past, inputs_none, left_asked, inputs_one, right_asked, past_asked, inputs_both, inputs_past}
use Rattle.rules.proofs.reads.add_inputs.Goals as goal

pub returns-in-Scan : goal.returns-in-Scan
returns-in-Scan c = inputs_none c.requires.0.0 c.requires.0.1 c.requires.1 c.of.ensures c.in-Scan.is

pub add_input-requires : goal.add_input-requires
add_input-requires c = left_asked c.requires.0.0 c.requires.0.1 c.requires.1 c.of.ensures (fed_one c.requires.0.0 c.requires.0.1 c.requires.1 c.of.ensures c.in-Select.is) c.left.ensures

pub returns-in-Select : goal.returns-in-Select
returns-in-Select c = inputs_one c.requires.0.0 c.requires.0.1 c.requires.1 c.of.ensures (fed_one c.requires.0.0 c.requires.0.1 c.requires.1 c.of.ensures c.in-Select.is) c.left.ensures c.add_input.ensures c.in-Select.is

pub add_input-requires-in-Join : goal.add_input-requires-in-Join
add_input-requires-in-Join c = left_asked c.requires.0.0 c.requires.0.1 c.requires.1 c.of.ensures (fed_both c.requires.0.0 c.requires.0.1 c.requires.1 c.of.ensures c.in-Join.is) c.left-in-Join.ensures

pub add_input-requires-in-Join-2 : goal.add_input-requires-in-Join-2
add_input-requires-in-Join-2 c =
    right_asked c.requires.0.0 c.requires.0.1 c.requires.1 c.of.ensures (fed_both c.requires.0.0 c.requires.0.1 c.requires.1 c.of.ensures c.in-Join.is) c.left-in-Join.ensures c.add_input-in-Join.ensures
    c.right.ensures c.in-Join.is

pub returns-in-Join : goal.returns-in-Join
returns-in-Join c =
    inputs_both c.requires.0.0 c.requires.0.1 c.requires.1 c.of.ensures (fed_both c.requires.0.0 c.requires.0.1 c.requires.1 c.of.ensures c.in-Join.is) c.left-in-Join.ensures c.add_input-in-Join.ensures
    c.right.ensures c.in-Join.is c.add_input-in-Join-2.ensures

pub add_input-requires-in-Dependent : goal.add_input-requires-in-Dependent
add_input-requires-in-Dependent c = left_asked c.requires.0.0 c.requires.0.1 c.requires.1 c.of.ensures (fed_past c.requires.0.0 c.requires.0.1 c.requires.1 c.of.ensures c.in-Dependent.is) c.left-in-Dependent.ensures

pub add_input-requires-in-Dependent-2 : goal.add_input-requires-in-Dependent-2
add_input-requires-in-Dependent-2 c =
    past_asked c.requires.0.0 c.requires.0.1 c.requires.1 c.of.ensures (fed_past c.requires.0.0 c.requires.0.1 c.requires.1 c.of.ensures c.in-Dependent.is) c.left-in-Dependent.ensures c.add_input-in-Dependent.ensures
    c.right-in-Dependent.ensures c.in-Dependent.is

pub returns-in-Dependent : goal.returns-in-Dependent
returns-in-Dependent c =
    inputs_past c.requires.0.0 c.requires.0.1 c.requires.1 c.of.ensures (fed_past c.requires.0.0 c.requires.0.1 c.requires.1 c.of.ensures c.in-Dependent.is) c.left-in-Dependent.ensures c.add_input-in-Dependent.ensures
    c.right-in-Dependent.ensures c.in-Dependent.is c.add_input-in-Dependent-2.ensures
