-- What is promised and kept: the three demands (specs/Demands.antt), and what else is promised (specs/Further.antt,
-- specs/Reasons.antt), of what C calls too (specs/Panel.antt).
use mathlib.Core.Path.{◌≡◌}
use Rattle.terminal.specs.Answers.{Outcome, given}
use Rattle.terminal.specs.Calls.{start_call, host_call, key_call}
use Rattle.terminal.proofs.Theorems as Terminals
use Rattle.promises.specs.Rules.{Rules, our_rules}
use Rattle.promises.specs.Entries.{Entries, our_entries}
use Rattle.promises.specs.CallContracts.{our_contracts}
use Rattle.promises.specs.Demands.{Demand1, Follows, Demand2, Demand3}
use Rattle.promises.specs.Reasons.{Reasons, MessageStays}
use Rattle.promises.specs.Panel.{Panel, our_panel, our_coding, OneRecord, PanelNumbers, PanelRefusals, AsCalled, SamePanels, PanelKept}
use Rattle.promises.specs.Further.{AllSame, OneResult, SameEntries, OneTerminal, ValidByTheTable, StaysValid, StartsWithOneField, SameHoweverCut, Continuing, Progress, CallsAreSteps, BlocksKeep, SendsBlocks, Required, SendModeStays, KeysTake, Bounded, CopyingSteps, OmissionSteps}
use Rattle.promises.proofs.OurLaws.{our_step_laws, our_keeps, our_keys_take}
use Rattle.promises.proofs.Doing.{by_the_table}
use Rattle.promises.proofs.OnlyOne.{same_entries}
use Rattle.promises.proofs.Staying.{KeepsSize, stays_valid_of, keeps_size_of, starts_with_one_field_of, keys_keep_of}
use Rattle.promises.proofs.Calling.{calls_are_steps_of, continuing_of, cutting_of, same_however_cut_of}
use Rattle.promises.proofs.Feeding.{our_feeding_back}
use Rattle.promises.proofs.Sending.{blocks_keep_of, bounded_of, progress_of}
use Rattle.promises.proofs.Asking.{our_sends_blocks}
use Rattle.promises.proofs.Required.{our_required}
use Rattle.promises.proofs.Reasoning.{our_reasons}
use Rattle.promises.proofs.Messages.{our_message_stays}
use Rattle.promises.proofs.SendMode.{our_send_mode_stays}
use Rattle.promises.proofs.Panels.{our_one_record, our_panel_numbers, our_panel_refusals, our_as_called}
use Rattle.promises.proofs.PanelCalls.{our_as_called_on, our_leaves_valid, same_panels}
use Rattle.promises.proofs.Copied.{copying_of}
use Rattle.promises.proofs.Omitted.{omission_of}
use Rattle.promises.proofs.CopiedCalls.{finding_of, copying_calls_of}

-- The three demands.
pub demand_1 : Demand1 our_rules our_entries
demand_1 = record { numbers = our_keeps.numbers; refusals = our_keeps.refusals }

pub demand_2 : Demand2 our_rules our_entries
demand_2 = record {
  follows = our_keeps.follows;
  cutting = cutting_of our_rules our_entries our_keeps;
  feeding_back = our_feeding_back;
  keys_keep = keys_keep_of our_rules our_step_laws our_entries our_keeps;
}

pub demand_3 : Demand3 our_rules our_entries
demand_3 = record {
  finding = finding_of our_rules our_step_laws our_entries our_keeps;
  copying = copying_calls_of our_rules our_step_laws our_entries our_keeps;
}

pub demands : Demand1 our_rules our_entries × Demand2 our_rules our_entries × Demand3 our_rules our_entries
demands = (demand_1, demand_2, demand_3)

-- A contract that names one outcome allows one result.
only_outcome : (outcome : Outcome) → AllSame (λ reply page output. given reply page output ≡ outcome)
only_outcome outcome one other page there output lent a b = Terminals.one_result a b

pub one_result : OneResult our_contracts
one_result = record {
  of_start = λ size page. only_outcome (start_call size page);
  of_host = λ t bytes lent. only_outcome (host_call t bytes lent);
  of_key = λ t key lent. only_outcome (key_call t key lent);
}

-- Demand 1 and Follows leave one terminal, whatever the rules; with `our_rules` it is ours.
pub one_terminal : (rules : Rules) → OneTerminal rules
one_terminal rules one other first follows first-too follows-too =
    same_entries rules one other
    (record { numbers = first.numbers; refusals = first.refusals; follows = follows })
    (record { numbers = first-too.numbers; refusals = first-too.refusals; follows = follows-too })

pub only_ours : (entries : Entries) → Demand1 our_rules entries → Follows our_rules entries → SameEntries entries our_entries
only_ours entries first follows = one_terminal our_rules entries our_entries first follows demand_1 our_keeps.follows

-- Valid terminals.
pub valid_by_the_table : ValidByTheTable
valid_by_the_table = by_the_table

-- Of entries with rules.
pub stays_valid : StaysValid our_entries
stays_valid = stays_valid_of our_rules our_step_laws our_entries our_keeps

pub starts_with_one_field : StartsWithOneField our_entries
starts_with_one_field = starts_with_one_field_of our_rules our_step_laws our_entries our_keeps

pub same_however_cut : SameHoweverCut our_entries
same_however_cut = same_however_cut_of our_rules our_entries our_keeps

pub continuing : Continuing our_rules our_entries
continuing = continuing_of our_rules our_entries our_keeps

pub progress : Progress our_entries
progress = progress_of our_rules our_step_laws our_entries our_keeps

pub calls_are_steps : CallsAreSteps our_rules our_entries
calls_are_steps = calls_are_steps_of our_rules our_entries our_keeps

pub required : Required our_rules our_entries
required = our_required

pub send_mode_stays : SendModeStays our_rules our_entries
send_mode_stays = our_send_mode_stays our_keeps

-- Of rules.
pub blocks_keep : BlocksKeep our_rules
blocks_keep = blocks_keep_of our_rules our_step_laws

pub sends_blocks : SendsBlocks our_rules
sends_blocks = our_sends_blocks

pub keys_take : KeysTake our_rules
keys_take = our_keys_take

pub bounded : Bounded our_rules
bounded = bounded_of our_rules our_step_laws

pub copying-steps : CopyingSteps our_rules
copying-steps = copying_of our_rules our_step_laws

pub omission_steps : OmissionSteps our_rules
omission_steps = omission_of our_rules our_step_laws

pub reasons : Reasons our_rules
reasons = our_reasons

pub message_stays : MessageStays our_rules
message_stays = our_message_stays

-- Of what C calls.
pub one_record : OneRecord our_coding
one_record = our_one_record

keeps_size : KeepsSize our_entries
keeps_size = keeps_size_of our_rules our_step_laws our_entries our_keeps

as_called : AsCalled our_entries our_panel
as_called = our_as_called our_keeps stays_valid keeps_size

pub panel_kept : PanelKept our_rules our_entries our_panel
panel_kept = record {
  numbers = our_panel_numbers demand_1;
  refusals = our_panel_refusals demand_1;
  as_called = as_called;
  as_called_on = our_as_called_on stays_valid as_called;
  leaves_valid = our_leaves_valid our_keeps valid_by_the_table stays_valid keeps_size;
}

-- Numbers, refusals and `AsCalled` leave one panel.
pub only_our_panel : (panel : Panel) → PanelNumbers our_rules panel → PanelRefusals panel → AsCalled our_entries panel → SamePanels panel our_panel
only_our_panel panel numbers refusals called =
    same_panels valid_by_the_table our_rules our_entries panel our_panel numbers panel_kept.numbers refusals panel_kept.refusals called panel_kept.as_called
