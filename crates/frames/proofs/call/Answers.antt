use mathlib.Core.Path.{◌≡◌, ap, ◌∙◌}
use Rattle.std.specs.Prelude.{Some}
use Rattle.frames.specs.declared.Kind.{Kind}
use Rattle.frames.specs.declared.Kind.TheVariants.{Start, Host, Key}
use Rattle.frames.specs.Sessions.{call_of}
use Rattle.frames.specs.Held.{frame_at, session_in}
use Rattle.frames.proofs.Answering.{called}
use Rattle.frames.proofs.call.Goals as goal

pub returns-in-Some-Start : goal.returns-in-Some-Start
unfolding frame_at
returns-in-Some-Start c =
    let kind : c.in-Some-Start.field-0 ≡ Start c.in-Some-Start.rows c.in-Some-Start.columns = rw c.in-Some-Start.is at c.in-Some-Start.field-0-is in
    let told = c.in-Some-Start.is ∙ ap (λ (kind : Kind). Some kind) kind in
    let before = session_in c.args.held c.args.characters.now c.args.marks.now in
    let all = called c.args.line.now c.args.from before c.requires.line_len.0 c.requires.line_len.1 told (c.start_call.ensures before) in
    record { call_made = all.0; from_bound = all.1; rest_bound = all.2 }

pub returns-in-Some-Host : goal.returns-in-Some-Host
unfolding frame_at
returns-in-Some-Host c =
    let kind : c.in-Some-Host.field-0 ≡ Host c.in-Some-Host.to = rw c.in-Some-Host.is at c.in-Some-Host.field-0-is in
    let told = c.in-Some-Host.is ∙ ap (λ (kind : Kind). Some kind) kind in
    let before = session_in c.args.held c.args.characters.now c.args.marks.now in
    let all = called c.args.line.now c.args.from before c.requires.line_len.0 c.requires.line_len.1 told c.host_call.ensures in
    record { call_made = all.0; from_bound = all.1; rest_bound = all.2 }

pub returns-in-Some-Key : goal.returns-in-Some-Key
unfolding frame_at
returns-in-Some-Key c =
    let kind : c.in-Some-Key.field-0 ≡ Key c.in-Some-Key.number = rw c.in-Some-Key.is at c.in-Some-Key.field-0-is in
    let told = c.in-Some-Key.is ∙ ap (λ (kind : Kind). Some kind) kind in
    let before = session_in c.args.held c.args.characters.now c.args.marks.now in
    let all = called c.args.line.now c.args.from before c.requires.line_len.0 c.requires.line_len.1 told c.key_call.ensures in
    record { call_made = all.0; from_bound = all.1; rest_bound = all.2 }

pub returns-in-None : goal.returns-in-None
unfolding frame_at call_of
returns-in-None c =
    let characters = c.args.characters.now in
    let marks = c.args.marks.now in
    let did = c.no_call.ensures characters marks c.args.out.now c.requires.enough.characters c.requires.enough.marks in
    let all = called c.args.line.now c.args.from (session_in c.args.held characters marks) c.requires.line_len.0 c.requires.line_len.1 c.in-None.is did in
    record { call_made = all.0; from_bound = all.1; rest_bound = all.2 }
