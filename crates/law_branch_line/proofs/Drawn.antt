-- what the ends have and name was drawn before, and All Ports is asked first of all

use Rattle.std.proofs.Common.{◌≡◌, ℕ, ◌+◌, ◌<◌, Bool, true, false, not, List, [], ◌∷◌, Option, None, Some, refl, sym, subst, arith, filter, remove, if◌then◌else◌}
use Rattle.std.specs.Prelude.{find, ◌||◌}
use Rattle.std.specs.List.{list_any}
use Rattle.net_types.specs.declared.adjacency.HelloKind.{HelloKind}
use Rattle.net_types.specs.declared.adjacency.HelloKind.TheVariants.{Syn, Synack, Rstack, Ack}
use Rattle.adjacency_table.specs.Table.{Row, Reply, Silent, Says, Resets, tick_reply}
use Rattle.adjacency_table.specs.Instances.{SideByInstances, row_for, enters, after_row, is_reset, greeting}
use Rattle.ordered_lists.specs.Ordered.{Every}
use Rattle.ordered_lists.proofs.Every.{every_map, every_join}
use Rattle.ordered_lists.proofs.Parts.{part_removed, every_part}
use Rattle.law_branch_line.specs.Words.{Request, OnInput, Elsewhere, all_ports, Outcome, Success, Failure, ToSwitch, ControllerGreets, Copy, ToController, SwitchGreets, Answer}
use Rattle.law_branch_line.specs.Line.{spoken, Asked, Apart, Unasked, Stands, Answered, Other, Meeting, Listing, Emptying, Met, MetAndAsked, Controller, Line, start}
use Rattle.law_branch_line.specs.Asking.{say, ask, ask_each, has_met, may_ask, since_asked, ask_again, is_numbered, ask_other_again}
use Rattle.law_branch_line.specs.Controller.{reset_node, meet_on_entering, follow, hear_switch, tick_controller, deletes, answers_asked, answers_other, input_answered, other_answered, hear_answer, controller_takes}
use Rattle.law_branch_line.specs.Switch.{reply, reset_switch, obey, hear_controller, tick_switch, takes_requests, branch_after, handle, switch_takes}
use Rattle.law_branch_line.specs.Moves.{Move, Ask, AskAgain, AskOtherAgain, WithdrawOther, ControllerTakes, ControllerTicks, ControllerResets, ControllerRestarts, SwitchTakes, SwitchTicks, SwitchResets, SwitchRestarts, CarryToSwitch, CarryToController, LoseToSwitch, LoseAtSwitch, LoseToController, LoseAtController, DrawElsewhere, carry_to_switch, carry_to_controller, step, run}
use Rattle.law_branch_line.specs.Law.{Always, IsDrawn, NamesDrawn, RepeatsDrawn, HasDrawn}

both_of : {A : Type 0} (P : A → Type 0) (b : Bool) (x y : A) → P x → P y → P (if b then x else y)
both_of P true x y p q = p
both_of P false x y p q = q

-- *Drawn*, queue by queue
record Drawn (w : Line) : Type 0 where
  controller : IsDrawn w.fresh w.controller.adjacency
  switch : IsDrawn w.fresh w.switch.adjacency
  to_switch : Every (NamesDrawn w.fresh) w.to_switch
  at_switch : Every (NamesDrawn w.fresh) w.at_switch
  to_controller : Every (RepeatsDrawn w.fresh) w.to_controller
  at_controller : Every (RepeatsDrawn w.fresh) w.at_controller

side_later : (fresh : ℕ) (side : SideByInstances) → IsDrawn fresh side → IsDrawn (fresh + 1) side
side_later fresh side d = (omega (arith, d.0), omega (arith, d.1))

names_later : (fresh : ℕ) (m : ToSwitch) → NamesDrawn fresh m → NamesDrawn (fresh + 1) m
names_later fresh (ControllerGreets kind sender receiver) d = (omega (arith, d.0), omega (arith, d.1))
names_later fresh (Copy under number request) d = tt

repeats_later : (fresh : ℕ) (m : ToController) → RepeatsDrawn fresh m → RepeatsDrawn (fresh + 1) m
repeats_later fresh (SwitchGreets kind sender receiver) d = (omega (arith, d.0), omega (arith, d.1))
repeats_later fresh (Answer under number request outcome) d = tt

later : (w : Line) → Drawn w → Drawn (record w { fresh = w.fresh + 1 })
later w d = record {
  controller = side_later w.fresh w.controller.adjacency d.controller;
  switch = side_later w.fresh w.switch.adjacency d.switch;
  to_switch = every_map (NamesDrawn w.fresh) (NamesDrawn (w.fresh + 1)) w.to_switch (names_later w.fresh) d.to_switch;
  at_switch = every_map (NamesDrawn w.fresh) (NamesDrawn (w.fresh + 1)) w.at_switch (names_later w.fresh) d.at_switch;
  to_controller = every_map (RepeatsDrawn w.fresh) (RepeatsDrawn (w.fresh + 1)) w.to_controller (repeats_later w.fresh) d.to_controller;
  at_controller = every_map (RepeatsDrawn w.fresh) (RepeatsDrawn (w.fresh + 1)) w.at_controller (repeats_later w.fresh) d.at_controller;
}

-- *What is said*
said_drawn : (w : Line) (messages : List ToSwitch) → Every (NamesDrawn w.fresh) messages → Drawn w → Drawn (say w messages)
said_drawn w messages all d = record { controller = d.controller; switch = d.switch; to_switch = every_join (NamesDrawn w.fresh) w.to_switch messages d.to_switch all; at_switch = d.at_switch; to_controller = d.to_controller; at_controller = d.at_controller }

replied_drawn : (w : Line) (messages : List ToController) → Every (RepeatsDrawn w.fresh) messages → Drawn w → Drawn (reply w messages)
replied_drawn w messages all d = record { controller = d.controller; switch = d.switch; to_switch = d.to_switch; at_switch = d.at_switch; to_controller = every_join (RepeatsDrawn w.fresh) w.to_controller messages d.to_controller all; at_controller = d.at_controller }

module _ {W : Type 0} (P : W → Type 0) (message : HelloKind → (sender receiver : ℕ) → W) (fresh : ℕ) (names : (kind : HelloKind) (sender receiver : ℕ) → sender < fresh → receiver < fresh → P (message kind sender receiver)) where
  greeting_drawn : (side : SideByInstances) (kind : HelloKind) (sender receiver : ℕ) → IsDrawn fresh side → sender < fresh → receiver < fresh → P (greeting message side kind sender receiver)
  greeting_drawn side Syn sender receiver d s r = names Syn side.own 0 d.0 (omega (arith, d.0))
  greeting_drawn side Synack sender receiver d s r = names Synack side.own side.stored d.0 d.1
  greeting_drawn side Ack sender receiver d s r = names Ack side.own side.stored d.0 d.1
  greeting_drawn side Rstack sender receiver d s r = names Rstack receiver sender r s

  spoken_drawn : (answer : Reply) (side : SideByInstances) (sender receiver : ℕ) → IsDrawn fresh side → sender < fresh → receiver < fresh → Every P (spoken message answer side sender receiver)
  spoken_drawn Silent side sender receiver d s r = tt
  spoken_drawn (Says kind) side sender receiver d s r = (greeting_drawn side kind sender receiver d s r, tt)
  spoken_drawn Resets side sender receiver d s r = tt

pub row_drawn : (fresh : ℕ) (side : SideByInstances) (found : Row) (sender : ℕ) → IsDrawn fresh side → sender < fresh → IsDrawn fresh (after_row side found sender)
row_drawn fresh side found sender d s = (d.0, both_of (λ (n : ℕ). n < fresh) found.stores sender side.stored s d.1)

-- *Asking*
asked_drawn : (w : Line) (request : Request) → Drawn w → Drawn (ask w request)
asked_drawn w (OnInput request) d = record { controller = d.controller; switch = d.switch; to_switch = every_join (NamesDrawn w.fresh) w.to_switch _ d.to_switch (tt, tt); at_switch = d.at_switch; to_controller = d.to_controller; at_controller = d.at_controller }
asked_drawn w (Elsewhere other) d = record { controller = d.controller; switch = d.switch; to_switch = every_join (NamesDrawn w.fresh) w.to_switch _ d.to_switch (tt, tt); at_switch = d.at_switch; to_controller = d.to_controller; at_controller = d.at_controller }

each_drawn : (requests : List Request) (w : Line) → Drawn w → Drawn (ask_each w requests)
each_drawn [] w d = d
each_drawn (request ∷ requests) w d = each_drawn requests (ask w request) (asked_drawn w request d)

with_controller : (w : Line) (c : Controller) → c.adjacency ≡ w.controller.adjacency → Drawn w → Drawn (record w { controller = c })
with_controller w c same d = record { controller = subst (IsDrawn w.fresh) (sym same) d.controller; switch = d.switch; to_switch = d.to_switch; at_switch = d.at_switch; to_controller = d.to_controller; at_controller = d.at_controller }

again_drawn : (w : Line) (asked : Asked) → Drawn w → Drawn (ask_again w asked)
again_drawn w Apart d = d
again_drawn w Unasked d = d
again_drawn w (Stands number request) d = said_drawn w (Copy w.controller.adjacency.own number (OnInput request) ∷ []) (tt, tt) d
again_drawn w (Answered number request) d = d

other_again_drawn : (w : Line) (o : Option Other) → Drawn w → Drawn (ask_other_again w o)
other_again_drawn w None d = d
other_again_drawn w (Some other) d = said_drawn w (Copy w.controller.adjacency.own other.number (Elsewhere other.message_type) ∷ []) (tt, tt) d

-- *The controller*
reset_drawn : (w : Line) → Drawn w → Drawn (reset_node w)
reset_drawn w d = (let k : Drawn (record w { fresh = w.fresh + 1 }) = later w d in
    record { controller = (omega arith, omega arith); switch = k.switch; to_switch = k.to_switch; at_switch = k.at_switch; to_controller = k.to_controller; at_controller = k.at_controller })

meets_drawn : (b : Bool) (w : Line) → Drawn w → Drawn (meet_on_entering b w)
meets_drawn true w d = asked_drawn (record w { controller = record w.controller { next = 1; asked = Unasked; others = []; meeting = Listing } }) (Elsewhere all_ports)
    (with_controller w (record w.controller { next = 1; asked = Unasked; others = []; meeting = Listing }) refl d)
meets_drawn false w d = d

follow_drawn : (w : Line) (found : Row) (sender receiver : ℕ) → sender < w.fresh → receiver < w.fresh → Drawn w → Drawn (follow w found sender receiver)
follow_drawn w found sender receiver s r d =
    let after : SideByInstances = after_row w.controller.adjacency found sender in
    let turned : IsDrawn w.fresh after = row_drawn w.fresh w.controller.adjacency found sender d.controller s in
    meets_drawn (enters w.controller.adjacency found) (say (record w { controller = record w.controller { adjacency = after } }) (spoken ControllerGreets found.reply after sender receiver))
    (said_drawn (record w { controller = record w.controller { adjacency = after } }) (spoken ControllerGreets found.reply after sender receiver)
    (spoken_drawn (NamesDrawn w.fresh) ControllerGreets w.fresh (λ kind a b x y. (x, y)) found.reply after sender receiver turned s r)
    (record { controller = turned; switch = d.switch; to_switch = d.to_switch; at_switch = d.at_switch; to_controller = d.to_controller; at_controller = d.at_controller }))

hears_drawn : (w : Line) (kind : HelloKind) (sender receiver : ℕ) → sender < w.fresh → receiver < w.fresh → Drawn w → Drawn (hear_switch w kind sender receiver)
hears_drawn w kind sender receiver s r d = (let found : Row = row_for w.controller.adjacency kind sender receiver in
    both_of Drawn (is_reset found.reply) (reset_node w) (follow w found sender receiver) (reset_drawn w d) (follow_drawn w found sender receiver s r d))

ticks_drawn : (w : Line) (answer : Reply) → Drawn w → Drawn (tick_controller w answer)
ticks_drawn w Resets d = reset_drawn w d
ticks_drawn w Silent d = said_drawn w [] tt d
ticks_drawn w (Says kind) d = said_drawn w (spoken ControllerGreets (Says kind) w.controller.adjacency 0 0)
    (spoken_drawn (NamesDrawn w.fresh) ControllerGreets w.fresh (λ k a b x y. (x, y)) (Says kind) w.controller.adjacency 0 0 d.controller (omega (arith, d.controller.0)) (omega (arith, d.controller.0))) d

others_drawn : (w : Line) (meeting : Meeting) (left : List Other) → Drawn w → Drawn (other_answered w meeting left)
others_drawn w Listing left d =
    let begun : Line = record w { controller = record w.controller { others = left } } in
    let asking : Line = ask_each begun (deletes w.ports_before w.ports_behind) in
    with_controller asking (record asking.controller { meeting = Emptying }) refl (each_drawn (deletes w.ports_before w.ports_behind) begun (with_controller w (record w.controller { others = left }) refl d))
others_drawn w Emptying left d = with_controller w _ refl d
others_drawn w Met left d = with_controller w _ refl d
others_drawn w MetAndAsked left d = with_controller w _ refl d

answer_drawn : (w : Line) (number : ℕ) (request : Request) (outcome : Outcome) → Drawn w → Drawn (hear_answer w number request outcome)
answer_drawn w number request Success d =
    let left : List Other = filter (λ other. not (answers_other number request other)) w.controller.others in
    both_of Drawn (answers_asked number request w.controller.asked) (input_answered w) (if list_any (answers_other number request) w.controller.others then other_answered w w.controller.meeting left else w)
    (with_controller w _ refl d)
    (both_of Drawn (list_any (answers_other number request) w.controller.others) (other_answered w w.controller.meeting left) w (others_drawn w w.controller.meeting left d) d)
answer_drawn w number request Failure d =
    both_of Drawn (answers_asked number request w.controller.asked || list_any (answers_other number request) w.controller.others) (reset_node w) w (reset_drawn w d) d

takes_drawn : (w : Line) (xs : List ToController) → Every (RepeatsDrawn w.fresh) xs → Drawn w → Drawn (controller_takes w xs)
takes_drawn w [] all d = d
takes_drawn w (SwitchGreets kind sender receiver ∷ rest) all d = hears_drawn (record w { at_controller = rest }) kind sender receiver all.0.0 all.0.1
    (record { controller = d.controller; switch = d.switch; to_switch = d.to_switch; at_switch = d.at_switch; to_controller = d.to_controller; at_controller = all.1 })
takes_drawn w (Answer under number request outcome ∷ rest) all d = answer_drawn (record w { at_controller = rest }) number request outcome
    (record { controller = d.controller; switch = d.switch; to_switch = d.to_switch; at_switch = d.at_switch; to_controller = d.to_controller; at_controller = all.1 })

-- *The switch*
switch_reset_drawn : (w : Line) → Drawn w → Drawn (reset_switch w)
switch_reset_drawn w d = (let k : Drawn (record w { fresh = w.fresh + 1 }) = later w d in
    record { controller = k.controller; switch = (omega arith, omega arith); to_switch = k.to_switch; at_switch = k.at_switch; to_controller = k.to_controller; at_controller = k.at_controller })

obeys_drawn : (w : Line) (kind : HelloKind) (sender receiver : ℕ) → sender < w.fresh → receiver < w.fresh → Drawn w → Drawn (hear_controller w kind sender receiver)
obeys_drawn w kind sender receiver s r d =
    let found : Row = row_for w.switch.adjacency kind sender receiver in
    let after : SideByInstances = after_row w.switch.adjacency found sender in
    let turned : IsDrawn w.fresh after = row_drawn w.fresh w.switch.adjacency found sender d.switch s in
    both_of Drawn (is_reset found.reply) (reset_switch w) (obey w found sender receiver) (switch_reset_drawn w d)
    (replied_drawn (record w { switch = record w.switch { adjacency = after } }) (spoken SwitchGreets found.reply after sender receiver)
    (spoken_drawn (RepeatsDrawn w.fresh) SwitchGreets w.fresh (λ k a b x y. (x, y)) found.reply after sender receiver turned s r)
    (record { controller = d.controller; switch = turned; to_switch = d.to_switch; at_switch = d.at_switch; to_controller = d.to_controller; at_controller = d.at_controller }))

switch_ticks_drawn : (w : Line) (answer : Reply) → Drawn w → Drawn (tick_switch w answer)
switch_ticks_drawn w Resets d = switch_reset_drawn w d
switch_ticks_drawn w Silent d = replied_drawn w [] tt d
switch_ticks_drawn w (Says kind) d = replied_drawn w (spoken SwitchGreets (Says kind) w.switch.adjacency 0 0)
    (spoken_drawn (RepeatsDrawn w.fresh) SwitchGreets w.fresh (λ k a b x y. (x, y)) (Says kind) w.switch.adjacency 0 0 d.switch (omega (arith, d.switch.0)) (omega (arith, d.switch.0))) d

handled_drawn : (w : Line) (under number : ℕ) (request : Request) (outcome : Outcome) → Drawn w → Drawn (handle w under number request outcome)
handled_drawn w under number request Success d = replied_drawn (record w { switch = record w.switch { branch = branch_after request w.switch.branch } }) (Answer under number request Success ∷ []) (tt, tt)
    (record { controller = d.controller; switch = d.switch; to_switch = d.to_switch; at_switch = d.at_switch; to_controller = d.to_controller; at_controller = d.at_controller })
handled_drawn w under number request Failure d = replied_drawn w (Answer under number request Failure ∷ []) (tt, tt) d

switch_takes_drawn : (w : Line) (xs : List ToSwitch) (outcome : Outcome) → Every (NamesDrawn w.fresh) xs → Drawn w → Drawn (switch_takes w xs outcome)
switch_takes_drawn w [] outcome all d = d
switch_takes_drawn w (ControllerGreets kind sender receiver ∷ rest) outcome all d = obeys_drawn (record w { at_switch = rest }) kind sender receiver all.0.0 all.0.1
    (record { controller = d.controller; switch = d.switch; to_switch = d.to_switch; at_switch = all.1; to_controller = d.to_controller; at_controller = d.at_controller })
switch_takes_drawn w (Copy under number request ∷ rest) outcome all d =
    let k : Drawn (record w { at_switch = rest }) = record { controller = d.controller; switch = d.switch; to_switch = d.to_switch; at_switch = all.1; to_controller = d.to_controller; at_controller = d.at_controller } in
    both_of Drawn (takes_requests w.switch.adjacency.state) (handle (record w { at_switch = rest }) under number request outcome) (record w { at_switch = rest })
    (handled_drawn (record w { at_switch = rest }) under number request outcome k) k

-- *The link*
removed : {A : Type 0} (P : A → Type 0) (xs : List A) (place : ℕ) → Every P xs → Every P (remove xs place)
removed P xs place all = every_part P (part_removed xs place) all

carried_drawn : (w : Line) (xs : List ToSwitch) → Every (NamesDrawn w.fresh) xs → Drawn w → Drawn (carry_to_switch w xs)
carried_drawn w [] all d = d
carried_drawn w (message ∷ rest) all d = record { controller = d.controller; switch = d.switch; to_switch = all.1; at_switch = every_join (NamesDrawn w.fresh) w.at_switch (message ∷ []) d.at_switch (all.0, tt); to_controller = d.to_controller; at_controller = d.at_controller }

carried_back_drawn : (w : Line) (xs : List ToController) → Every (RepeatsDrawn w.fresh) xs → Drawn w → Drawn (carry_to_controller w xs)
carried_back_drawn w [] all d = d
carried_back_drawn w (message ∷ rest) all d = record { controller = d.controller; switch = d.switch; to_switch = d.to_switch; at_switch = d.at_switch; to_controller = all.1; at_controller = every_join (RepeatsDrawn w.fresh) w.at_controller (message ∷ []) d.at_controller (all.0, tt) }

-- *Each move*
step_drawn : (w : Line) (move : Move) → Drawn w → Drawn (step w move)
step_drawn w (Ask request) d = both_of Drawn (may_ask w.controller.meeting w.controller.asked request) (ask (record w { controller = record w.controller { meeting = since_asked w.controller.meeting request } }) request) w
    (asked_drawn (record w { controller = record w.controller { meeting = since_asked w.controller.meeting request } }) request (with_controller w _ refl d)) d
step_drawn w AskAgain d = again_drawn w w.controller.asked d
step_drawn w (AskOtherAgain number) d = other_again_drawn w (find (is_numbered number) w.controller.others) d
step_drawn w (WithdrawOther number) d = both_of Drawn (has_met w.controller.meeting) (record w { controller = record w.controller { others = filter (λ other. not (is_numbered number other)) w.controller.others } }) w (with_controller w _ refl d) d
step_drawn w ControllerTakes d = takes_drawn w w.at_controller d.at_controller d
step_drawn w (ControllerTicks silence) d = ticks_drawn w (tick_reply w.controller.adjacency.state silence) d
step_drawn w ControllerResets d = reset_drawn w d
step_drawn w ControllerRestarts d = reset_drawn (record w { at_controller = [] })
    (record { controller = d.controller; switch = d.switch; to_switch = d.to_switch; at_switch = d.at_switch; to_controller = d.to_controller; at_controller = tt })
step_drawn w (SwitchTakes outcome) d = switch_takes_drawn w w.at_switch outcome d.at_switch d
step_drawn w (SwitchTicks silence) d = switch_ticks_drawn w (tick_reply w.switch.adjacency.state silence) d
step_drawn w SwitchResets d = switch_reset_drawn w d
step_drawn w SwitchRestarts d = switch_reset_drawn (record w { switch = record w.switch { branch = None }; at_switch = [] })
    (record { controller = d.controller; switch = d.switch; to_switch = d.to_switch; at_switch = tt; to_controller = d.to_controller; at_controller = d.at_controller })
step_drawn w CarryToSwitch d = carried_drawn w w.to_switch d.to_switch d
step_drawn w CarryToController d = carried_back_drawn w w.to_controller d.to_controller d
step_drawn w (LoseToSwitch place) d = record { controller = d.controller; switch = d.switch; to_switch = removed (NamesDrawn w.fresh) w.to_switch place d.to_switch; at_switch = d.at_switch; to_controller = d.to_controller; at_controller = d.at_controller }
step_drawn w (LoseAtSwitch place) d = record { controller = d.controller; switch = d.switch; to_switch = d.to_switch; at_switch = removed (NamesDrawn w.fresh) w.at_switch place d.at_switch; to_controller = d.to_controller; at_controller = d.at_controller }
step_drawn w (LoseToController place) d = record { controller = d.controller; switch = d.switch; to_switch = d.to_switch; at_switch = d.at_switch; to_controller = removed (RepeatsDrawn w.fresh) w.to_controller place d.to_controller; at_controller = d.at_controller }
step_drawn w (LoseAtController place) d = record { controller = d.controller; switch = d.switch; to_switch = d.to_switch; at_switch = d.at_switch; to_controller = d.to_controller; at_controller = removed (RepeatsDrawn w.fresh) w.at_controller place d.at_controller }
step_drawn w DrawElsewhere d = later w d

run_drawn : (moves : List Move) (w : Line) → Drawn w → Drawn (run w moves)
run_drawn [] w d = d
run_drawn (move ∷ moves) w d = run_drawn moves (step w move) (step_drawn w move d)

pub always_drawn : Always HasDrawn
always_drawn controller switch fresh before behind positive drawn also moves =
    let w : Line = run (start controller switch fresh before behind) moves in
    let d : Drawn w = run_drawn moves (start controller switch fresh before behind)
    (record { controller = (drawn, omega (arith, drawn)); switch = (also, omega (arith, also)); to_switch = tt; at_switch = tt; to_controller = tt; at_controller = tt }) in
    record {
      controller = d.controller;
      switch = d.switch;
      to_switch = every_join (NamesDrawn w.fresh) w.at_switch w.to_switch d.at_switch d.to_switch;
      to_controller = every_join (RepeatsDrawn w.fresh) w.at_controller w.to_controller d.at_controller d.to_controller;
    }
