-- what a controller hears of its switch, as its ports' tables know it

use Rattle.std.proofs.Common.{◌≡◌, [], append-nil, sym, ◌∙◌}
use Rattle.std.proofs.lemmas.List.{append_cancel_left}
use Rattle.world_model.specs.Words.{default_home}
use Rattle.world_model.specs.Gsmp.{message_comes}
use Rattle.law_live_waking_links.specs.law_live_orders.Law.{last_marks}
use Rattle.law_live_sending.proofs.Going.{Goes, Sends}
use Rattle.law_live_tables.specs.Switches.{SwitchesAreHeard}
use Rattle.law_live_tables.proofs.Ticking.{hellos_none}
use Rattle.law_live_tables.proofs.Greeting.{said_greets}
use Rattle.law_live_tables.proofs.Answers.{Clears, message_clears}

pub switches_are_heard : SwitchesAreHeard
switches_are_heard port a message linked link found up up_then unlost =
    let c : Clears port link.0 a (message_comes a message) = message_clears port link.0 a message up in
    let left = c.does.left up_then linked found in
    let goes : Goes (default_home port).channel a (message_comes a message) c.messages = c.does.goes up_then in
    let none_lost : goes.entries ≡ [] = append_cancel_left a.notes.entries goes.entries [] (sym goes.grown ∙ (unlost ∙ sym (append-nil a.notes.entries))) in
    let sends : Sends (default_home port).channel a (message_comes a message) c.messages = goes.sends none_lost in
    record {
      now = left.now;
      is = left.is;
      setup = left.setup;
      side = left.side;
      later = sends.more;
      queue = sends.queue;
      greets_nobody = said_greets a.controller.address (message_comes a message).notes.frames (last_marks (default_home port).channel sends.more) c.messages [] sends.said (hellos_none c.messages c.others) tt;
    }
