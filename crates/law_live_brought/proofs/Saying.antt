-- a node that goes on quietly hears a success: what it sends on the default channel of one port, and what stays

use Rattle.std.proofs.Common.{◌≡◌, ◌≢◌, ℕ, ◌+◌, ◌*◌, ◌≤◌, ◌&&◌, Bool, true, false, List, [], ◌∷◌, ◌++◌, length, nat_le, Option, None, Some, refl, sym, ◌∙◌, ap, subst, arith, if◌then◌else◌, fold}
use Rattle.world_model.specs.Words.{PortNo, Channel, Mark, Cell, Frame, Record, Loss, PoolFull, noted, made, losses_of, frame_cells, same_channel, next_control, with_control, sends_control, default_home, default_payload, ifmp_packet_of, says_ifmp, is_estab, is_spent, Action, Say, Ask, Note, CutChain, TakeBack, Withdraw, Work, halts, halts_if_spent, Controller, Linked, port_key, linked_at, begins, with_work, works, works_as, with_linked, performs, performs_in_estab, Rule, at_port, resets_spent, may_clear, clears_of, clears_port, clears, takes_each, takes_changes}
use Rattle.world_model.specs.port_model.declared.action.Action.TheVariants.{Reset}
use Rattle.world_model.specs.port_model.Resets.{cleared}
use Rattle.world_model.specs.ifmp_wire.Message.{octets_of as ifmp_octets}
use Rattle.world_model.specs.ifmp_wire.declared.message.Message.{Message}
use Rattle.world_model.specs.frame_model.Sending.{Sender}
use Rattle.world_model.specs.Controller.{Acted, note, free_slots, ports_of}
use Rattle.world_model.specs.Sending.{with_cells}
use Rattle.law_live_binding_beats.specs.law_port_facts.ordered_lists.Ordered.{Every}
use Rattle.law_live_binding_beats.proofs.law_port_facts.Keyed.{on_both, at_every, by_eq}
use Rattle.law_live_binding_beats.proofs.law_shown_cells.Frames.{IsOf, IsCut, frame_is_cut}
use Rattle.law_live_binding_beats.proofs.law_shown_cells.Made.{made_is}
use Rattle.law_live_binding_beats.specs.law_live_nodes.Law.{told_by}
use Rattle.law_live_binding_beats.specs.law_live_orders.Law.{last_marks}
use Rattle.law_live_binding_beats.specs.law_live_orders.Messages.{AreSaid, none, says}
use Rattle.law_live_binding_beats.proofs.law_live_orders.Marks.{channel_self, marks_join, marks_here, marks_there}
use Rattle.law_live_sending.proofs.Going.{IsGiven, Goes, goes_noting, goes_same, goes_then, goes_sent, goes_elsewhere}
use Rattle.law_live_binding_beats.specs.law_live_others.Law.{IsUp}
use Rattle.law_live_binding_beats.proofs.law_live_numbers.Standing.{IsCalmNow, all_calm}

both_true : (p q : Bool) → p ≡ true → q ≡ true → (p && q) ≡ true
both_true true q e h = h
both_true false q e h = absurd (cc e)

first_false : (p q : Bool) → p ≡ false → (p && q) ≡ false
first_false true q e = absurd (cc e)
first_false false q e = refl

-- *A frame* has one last cell
early_none : (channel : Channel) (mark : Mark) (cells : List Cell) → Every (IsOf channel mark false) cells → last_marks channel cells ≡ []
early_none channel mark [] each = refl
early_none channel mark (cell ∷ cells) each =
    marks_there channel cell cells (first_false cell.header.last (same_channel cell.header.channel channel) each.0.1) ∙ early_none channel mark cells each.1

frame_has_one : (channel : Channel) (mark : Mark) (payload : List ℕ) → last_marks channel (frame_cells channel mark payload) ≡ mark ∷ []
frame_has_one channel mark payload =
    let c : IsCut channel mark (frame_cells channel mark payload) = frame_is_cut channel mark payload in
    ap (last_marks channel) c.whole
    ∙ (marks_join channel c.front (c.final ∷ [])
    ∙ (ap (λ (ms : List Mark). ms ++ last_marks channel (c.final ∷ [])) (early_none channel mark c.front c.early)
    ∙ (marks_here channel c.final [] (both_true c.final.header.last (same_channel c.final.header.channel channel) c.last.1
    (ap (λ (x : Channel). same_channel x channel) c.last.0 ∙ channel_self channel))
    ∙ ap (λ (m : Mark). m ∷ []) c.last.2)))

-- *What is sent* leaves the node up as it was, and what waits
pub record SameNode (a b : Acted) : Type 0 where
  pub state : b.controller.adjacency.state ≡ a.controller.adjacency.state
  pub waiting : b.controller.waiting ≡ a.controller.waiting

sent_same : (a : Acted) (channel : Channel) (payload : List ℕ) → SameNode a (sends_control a channel payload)
sent_same a channel payload = on_both (λ (s : Sender Controller). SameNode a (record { controller = s.queues; notes = s.notes; numbers = with_control a.numbers }))
    (nat_le (length (frame_cells channel (next_control a.numbers) payload)) (free_slots a.controller))
    (record { queues = with_cells a.controller (frame_cells channel (next_control a.numbers) payload); notes = made a.notes (next_control a.numbers) payload })
    (record { queues = a.controller; notes = noted (made a.notes (next_control a.numbers) payload) (Loss (next_control a.numbers) PoolFull) })
    (record { state = refl; waiting = refl }) (record { state = refl; waiting = refl })

-- *To note and to say* is all that a port asks
abbrev pub IsMild : Action → Type 0
IsMild (Say message) = Unit {0}
IsMild (Note item) = Unit {0}
IsMild action = ⊥

-- whoever performs it in Estab
performed : (q : PortNo) (a : Acted) (action : Action) → IsUp a → performs_in_estab q a action ≡ performs q a action
performed q a action up = ap (λ (b : Bool). if b then performs q a action else a) up

module _ (port : PortNo) (some : 1 ≤ port.0) where
  abbrev pub home : Channel
  home = (default_home port).channel

  other_apart : (other : PortNo) → other.0 ≢ port.0 → same_channel (default_home other).channel home ≡ false
  other_apart other apart = by_eq (default_home other).channel.vpi home.vpi (λ same t. absurd (apart (less other.0 port.0 same))) (λ differs t. ap (λ (b : Bool). b && true) t)
    where
      less : (m n : ℕ) → 16 * m + 0 ≡ 16 * n + 0 → m ≡ n
      less m n e = omega (arith, e)

  -- *It runs on*: these messages are sent, where nothing is lost, and the node is as it was
  pub record Runs (a b : Acted) (messages : List Message) : Type 0 where
    pub goes : Goes home a b messages
    pub same : SameNode a b

  pub runs_then : (a b c : Acted) (ms ns : List Message) → Runs a b ms → Runs b c ns → Runs a c (ms ++ ns)
  runs_then a b c ms ns p q = record {
    goes = goes_then home a b c ms ns p.goes q.goes;
    same = record { state = q.same.state ∙ p.same.state; waiting = q.same.waiting ∙ p.same.waiting };
  }

  pub runs_as : (a b : Acted) (ms ns : List Message) → ms ≡ ns → Runs a b ms → Runs a b ns
  runs_as a b ms ns e r = subst (Runs a b) e r

  pub still_up : (a b : Acted) (messages : List Message) → Runs a b messages → IsUp a → IsUp b
  still_up a b messages r up = ap is_estab r.same.state ∙ up

  pub runs_same : (a b : Acted) → b.notes.entries ≡ a.notes.entries → b.notes.frames ≡ a.notes.frames → b.controller.queue ≡ a.controller.queue
      → b.controller.address ≡ a.controller.address → b.numbers.controls ≡ a.numbers.controls → SameNode a b → Runs a b []
  runs_same a b entries frames queue address controls same = record { goes = goes_same home a b entries frames queue address controls; same = same }

  pub runs_itself : (a : Acted) → Runs a a []
  runs_itself a = runs_same a a refl refl refl refl refl (record { state = refl; waiting = refl })

  pub note_runs : (a : Acted) (item : Record) → Runs a (note a item) []
  note_runs a item = record { goes = goes_noting home a (note a item) (losses_of (item ∷ [])) refl refl refl refl refl; same = record { state = refl; waiting = refl } }

  -- *What is said* on the port's own default channel, and on another's
  own_said : (a : Acted) (message : Message) → Runs a (says_ifmp port a message) (message ∷ [])
  own_said a message = record { goes = sent; same = sent_same a home payload }
    where
      mark : Mark
      mark = next_control a.numbers

      payload : List ℕ
      payload = default_payload (ifmp_packet_of a.controller.address (ifmp_octets message))

      frames : List Frame
      frames = a.notes.frames ++ record { mark = mark; payload = payload } ∷ []

      marks : last_marks home (frame_cells home mark payload) ≡ mark ∷ []
      marks = frame_has_one home mark payload

      itself : (n : ℕ) → n ≤ n
      itself n = omega arith

      sent : Goes home a (says_ifmp port a message) (message ∷ [])
      sent = goes_sent home a home payload (message ∷ [])
          (subst (λ (ms : List Mark). AreSaid a.controller.address frames ms (message ∷ [])) (sym marks) (says mark message (made_is a.notes.frames mark payload) none))
          (subst (Every (IsGiven (a.numbers.controls + 1))) (sym marks) ((refl, itself (a.numbers.controls + 1)), tt))

  other_said : (q : PortNo) → q.0 ≢ port.0 → (a : Acted) (message : Message) → Runs a (says_ifmp q a message) []
  other_said q apart a message =
      let payload : List ℕ = default_payload (ifmp_packet_of a.controller.address (ifmp_octets message)) in
      record { goes = goes_elsewhere home a (default_home q).channel payload (other_apart q apart); same = sent_same a (default_home q).channel payload }

  -- *What a port asked* is done
  own_acts : (q : PortNo) → q ≡ port → (actions : List Action) → Every IsMild actions → (a : Acted) → IsUp a → Runs a (fold (performs_in_estab q) a actions) (told_by actions)
  own_acts q same [] mild a up = runs_itself a
  own_acts q same (Say message ∷ actions) mild a up =
      subst (λ (b : Acted). Runs a (fold (performs_in_estab q) b actions) (message ∷ told_by actions)) (sym (performed q a (Say message) up))
      (runs_then a (says_ifmp q a message) (fold (performs_in_estab q) (says_ifmp q a message) actions) (message ∷ []) (told_by actions) said
      (own_acts q same actions mild.1 (says_ifmp q a message) (still_up a (says_ifmp q a message) (message ∷ []) said up)))
    where
      said : Runs a (says_ifmp q a message) (message ∷ [])
      said = subst (λ (p : PortNo). Runs a (says_ifmp p a message) (message ∷ [])) (sym same) (own_said a message)
  own_acts q same (Note item ∷ actions) mild a up =
      subst (λ (b : Acted). Runs a (fold (performs_in_estab q) b actions) (told_by actions)) (sym (performed q a (Note item) up))
      (runs_then a (note a item) (fold (performs_in_estab q) (note a item) actions) [] (told_by actions) (note_runs a item) (own_acts q same actions mild.1 (note a item) up))
  own_acts q same (Ask request needed ∷ actions) mild a up = absurd mild.0
  own_acts q same (CutChain label ∷ actions) mild a up = absurd mild.0
  own_acts q same (TakeBack input output ∷ actions) mild a up = absurd mild.0
  own_acts q same (Withdraw input ∷ actions) mild a up = absurd mild.0
  own_acts q same (Reset ∷ actions) mild a up = absurd mild.0

  other_acts : (q : PortNo) → q.0 ≢ port.0 → (actions : List Action) → Every IsMild actions → (a : Acted) → IsUp a → Runs a (fold (performs_in_estab q) a actions) []
  other_acts q apart [] mild a up = runs_itself a
  other_acts q apart (Say message ∷ actions) mild a up =
      subst (λ (b : Acted). Runs a (fold (performs_in_estab q) b actions) []) (sym (performed q a (Say message) up))
      (runs_then a (says_ifmp q a message) (fold (performs_in_estab q) (says_ifmp q a message) actions) [] [] said
      (other_acts q apart actions mild.1 (says_ifmp q a message) (still_up a (says_ifmp q a message) [] said up)))
    where
      said : Runs a (says_ifmp q a message) []
      said = other_said q apart a message
  other_acts q apart (Note item ∷ actions) mild a up =
      subst (λ (b : Acted). Runs a (fold (performs_in_estab q) b actions) []) (sym (performed q a (Note item) up))
      (runs_then a (note a item) (fold (performs_in_estab q) (note a item) actions) [] [] (note_runs a item) (other_acts q apart actions mild.1 (note a item) up))
  other_acts q apart (Ask request needed ∷ actions) mild a up = absurd mild.0
  other_acts q apart (CutChain label ∷ actions) mild a up = absurd mild.0
  other_acts q apart (TakeBack input output ∷ actions) mild a up = absurd mild.0
  other_acts q apart (Withdraw input ∷ actions) mild a up = absurd mild.0
  other_acts q apart (Reset ∷ actions) mild a up = absurd mild.0

  -- *A rule* of a port
  with_work_runs : (a : Acted) (linked : Linked) (w : Work) → Runs a (with_work a linked w) []
  with_work_runs a linked w = runs_same a (with_work a linked w) refl refl refl refl refl (record { state = refl; waiting = refl })

  pub own_rule : (a : Acted) (rule : Rule) (linked : Linked) → linked_at a.controller port ≡ Some linked → linked.setup.port ≡ port → IsUp a
      → Every IsMild (rule linked.setup a.controller.desk (begins a linked)).actions → Runs a (at_port a port rule) (told_by (rule linked.setup a.controller.desk (begins a linked)).actions)
  own_rule a rule linked found own up mild =
      let w : Work = rule linked.setup a.controller.desk (begins a linked) in
      subst (λ (b : Acted). Runs a b (told_by w.actions)) (sym (ap (works a rule) found))
      (runs_then a (with_work a linked w) (works_as a linked w) [] (told_by w.actions) (with_work_runs a linked w) (own_acts linked.setup.port own w.actions mild (with_work a linked w) up))

  pub other_rule : (a : Acted) (q : PortNo) (rule : Rule) → q.0 ≢ port.0 → IsUp a
      → ((linked : Linked) → linked_at a.controller q ≡ Some linked → linked.setup.port.0 ≡ q.0)
      → ((linked : Linked) → linked_at a.controller q ≡ Some linked → Every IsMild (rule linked.setup a.controller.desk (begins a linked)).actions) → Runs a (at_port a q rule) []
  other_rule a q rule apart up keys mild = by (linked_at a.controller q) refl
    where
      by : (o : Option Linked) → linked_at a.controller q ≡ o → Runs a (works a rule o) []
      by None found = runs_itself a
      by (Some linked) found =
          let w : Work = rule linked.setup a.controller.desk (begins a linked) in
          runs_then a (with_work a linked w) (works_as a linked w) [] [] (with_work_runs a linked w)
          (other_acts linked.setup.port (λ same. apart (sym (keys linked found) ∙ same)) w.actions (mild linked found) (with_work a linked w) up)

  -- *Where no port's numbers are spent*, none is reset
  spent_runs : (a : Acted) (q : PortNo) → IsCalmNow a → Runs a (resets_spent a q) []
  spent_runs a q calm = by (linked_at a.controller q) refl
    where
      by : (o : Option Linked) → linked_at a.controller q ≡ o → Runs a (works a (λ setup desk w. halts_if_spent w) o) []
      by None found = runs_itself a
      by (Some linked) found = subst (λ (b : Bool). Runs a (works_as a linked (if b then halts (begins a linked) else begins a linked)) []) (sym fresh)
          (with_work_runs a linked (begins a linked))
        where
          fresh : is_spent linked.port.session ≡ false
          fresh = at_every port_key (λ (x : Linked). is_spent x.port.session ≡ false) q.0 a.controller.ports linked calm.unspent found

  pub all_spent_run : (qs : List PortNo) (a : Acted) → IsCalmNow a → Runs a (fold resets_spent a qs) []
  all_spent_run [] a calm = runs_itself a
  all_spent_run (q ∷ qs) a calm = runs_then a (resets_spent a q) (fold resets_spent (resets_spent a q) qs) [] [] (spent_runs a q calm)
      (all_spent_run qs (resets_spent a q) (all_calm (q ∷ []) a calm))

  -- *Ports are cleared*, and say nothing
  clear_runs : (a : Acted) (q : PortNo) → Runs a (clears_port a q) []
  clear_runs a q = by (linked_at a.controller q)
    where
      by : (o : Option Linked) → Runs a (clears_of a o) []
      by None = runs_itself a
      by (Some linked) = on_both (λ (b : Acted). Runs a b []) (may_clear a.controller linked) (with_linked a (record linked { port = cleared linked.port })) a
          (runs_same a (with_linked a (record linked { port = cleared linked.port })) refl refl refl refl refl (record { state = refl; waiting = refl })) (runs_itself a)

  all_clear_run : (qs : List PortNo) (a : Acted) → Runs a (fold clears_port a qs) []
  all_clear_run [] a = runs_itself a
  all_clear_run (q ∷ qs) a = runs_then a (clears_port a q) (fold clears_port (clears_port a q) qs) [] [] (clear_runs a q) (all_clear_run qs (clears_port a q))

  pub clears_run : (a : Acted) → Runs a (clears a) []
  clears_run a = all_clear_run (ports_of a.controller) a

-- *Where no change of routes waits*, none is taken
pub changes_none : (a : Acted) → a.controller.waiting ≡ [] → takes_changes a ≡ a
changes_none a none_waits = on_both (λ (b : Acted). b ≡ a) a.controller.has_met (takes_each a a.controller.waiting) a (ap (takes_each a) none_waits) refl
