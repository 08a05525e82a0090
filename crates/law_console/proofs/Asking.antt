-- what the console asks and says keeps what is so

use Rattle.std.proofs.Common.{◌≡◌, ℕ, ◌+◌, ◌==◌, ◌&&◌, Bool, true, false, not, List, [], ◌∷◌, ◌++◌, length, filter, slice_get, Option, None, Some, refl, sym, ◌∙◌, ap, subst, arith}
use Rattle.std.specs.Option.{option_map_or}
use Rattle.world_model.specs.Words.{Greeting, HelloKind, Party, Answer, Heard, Said, Side, Step, is_estab, said as says_as, answer_to, answer_of, is_entry, followed, followed_tick, ticked, Reply, Silent, Says, Resets, Row, row, tick_reply, same_party, heard_in, greeting_of, gsmp_answer, gsmp_received, Request, PortRow, Desk, Standing, message_of, withdraws}
use Rattle.world_model.specs.adjacency_table.Side.{answer_opened as opens, counted}
use Rattle.world_model.specs.gsmp_wire.declared.message.Message.TheVariants as messages
use Rattle.world_model.specs.gsmp_wire.declared.request.Request.TheVariants.{AllPorts}
use Rattle.world_model.specs.gsmp_wire.Layout.{octets_of}
use Rattle.world_model.specs.port_model.Desk.{asked}
use Rattle.console_model.specs.Lab.{Lab, with_desk, with_side}
use Rattle.console_model.specs.Asking.{says, sends_request, asks, meets, next_command, may_ask, asks_by, asks_next, resets}
use Rattle.console_model.specs.Hearing.{follows, steps}
use Rattle.console_model.specs.Steps.{sends_first, sends_again, ticks_with}
use Rattle.law_console.specs.Words.{Stood, Nothing, Lists, Commands, first_rows}
use Rattle.law_console.specs.Kept.{View, view, made_in, course, StandsAs, IsFirst, IsKept, Holds}
use Rattle.law_console.proofs.Cells.{MayAsk, greeting_may, list_may, command_may}
use Rattle.law_console.proofs.Views.{on_both, on_each, framed_kept, down_kept, says_view, said}
use Rattle.law_console.proofs.Changes.{more, opened, closed, list_stands, command_stands}

module _ (ports most : ℕ) where
  abbrev pub Is : Lab → Type 0
  Is lab = Holds ports most (view lab)

  abbrev pub Then : Lab → Type 0
  Then lab = Holds ports (most + 1) (view lab)

  pub then_more : (lab : Lab) → Is lab → Then lab
  then_more lab h = record { carried = h.carried; stood = h.stood; kept = more ports most h.carried h.stood (view lab) h.kept }

  -- *A greeting is said*
  pub says_greeting : (lab : Lab) (g : Greeting) → Is lab → Is (says lab (messages.Adjacency g))
  says_greeting lab g h = record {
    carried = h.carried;
    stood = h.stood;
    kept = said ports most h.carried h.stood lab (messages.Adjacency g) (greeting_may ports (course h.carried h.stood (view lab)) (made_in (view lab)) g) h.kept;
  }

  -- *Outside Estab*, or as if it were
  abbrev IsShut : Lab → Type 0
  IsShut lab = Holds ports most (record (view lab) { is_estab = false })

  shuts : (lab : Lab) → Is lab → IsShut lab
  shuts lab h = record { carried = h.carried; stood = h.stood; kept = closed ports most h.carried h.stood (view lab) h.kept }

  says_shut : (lab : Lab) (g : Greeting) → IsShut lab → IsShut (says lab (messages.Adjacency g))
  says_shut lab g h = record {
    carried = h.carried;
    stood = h.stood;
    kept = says_view (λ (v : View). IsKept ports most h.carried h.stood (record v { is_estab = false })) lab (messages.Adjacency g)
        (down_kept ports most h.carried h.stood (record (view lab) { is_estab = false }) (octets_of (messages.Adjacency g)) (greeting_may ports (course h.carried h.stood (view lab)) (made_in (view lab)) g) h.kept)
        (framed_kept ports most h.carried h.stood (record (view lab) { is_estab = false }) (octets_of (messages.Adjacency g)) h.kept);
  }

  resets_kept : (lab : Lab) → IsShut lab → Is (resets lab)
  resets_kept lab h = h

  -- *On entering Estab* all ports are asked for
  meets_kept : (lab : Lab) → IsShut lab → Then (meets lab)
  meets_kept lab h =
      let n : ℕ = lab.console.desk.next in
      let asking : Lab = with_desk lab (record { next = n + 1; standing = record { number = n; request = AllPorts } ∷ []; rows = lab.console.desk.rows }) in
      record {
        carried = h.carried;
        stood = Lists n;
        kept = said ports (most + 1) h.carried (Lists n) asking (message_of lab.console.desk.rows n AllPorts)
            (list_may ports (course h.carried (Lists n) (view asking)) (made_in (view asking)) n (omega arith) tt)
            (list_stands ports most h.carried h.stood (view lab) (is_estab lab.console.adjacency.state) h.kept);
      }

  -- *What the table answers* to a message
  entered : (lab : Lab) (own : Party) (says_by : HelloKind → Said Party) (reply : Reply) → IsShut lab → Then (follows lab (gsmp_answer (opens own (answer_of says_by reply))))
  entered lab own says_by Silent h = meets_kept lab h
  entered lab own says_by (Says kind) h = meets_kept (says lab (messages.Adjacency (greeting_of (says_by kind)))) (says_shut lab (greeting_of (says_by kind)) h)
  entered lab own says_by Resets h = then_more (resets lab) (resets_kept lab h)

  stayed : (lab : Lab) (says_by : HelloKind → Said Party) (reply : Reply) → Is lab → Then (follows lab (gsmp_answer (answer_of says_by reply)))
  stayed lab says_by Silent h = then_more lab h
  stayed lab says_by (Says kind) h = then_more (says lab (messages.Adjacency (greeting_of (says_by kind)))) (says_greeting lab (greeting_of (says_by kind)) h)
  stayed lab says_by Resets h = then_more (resets lab) (resets_kept lab (shuts lab h))

  was_in : (before after : Bool) → (not before && after) ≡ false → after ≡ true → before ≡ true
  was_in true after e f = refl
  was_in false after e f = absurd (cc (sym e ∙ f))

  row_kept : (lab : Lab) (m : Heard Party) (r : Row) → Is lab → Then (steps lab (followed lab.console.adjacency m r))
  row_kept lab m r h =
      let step : Step Party = followed lab.console.adjacency m r in
      let side : Side Party = step.side in
      let answer : Answer (Said Party) Party = answer_of (answer_to side m) r.reply in
      on_each (λ (x : Answer (Said Party) Party). Then (follows (with_side lab side) (gsmp_answer x))) (is_entry lab.console.adjacency.state r.next) (opens lab.console.adjacency.own answer) answer
      (λ e. entered (with_side lab side) lab.console.adjacency.own (answer_to side m) r.reply (shuts lab h))
      (λ e. stayed (with_side lab side) (answer_to side m) r.reply (record {
        carried = h.carried;
        stood = h.stood;
        kept = opened ports most h.carried h.stood (view lab) (is_estab r.next) (was_in (is_estab lab.console.adjacency.state) (is_estab r.next) e) h.kept;
      }))

  pub greeting_kept : (lab : Lab) (g : Greeting) → Is lab → Then (steps lab (gsmp_received lab.console.adjacency g))
  greeting_kept lab g h =
      let a : Side Party = lab.console.adjacency in
      row_kept lab (heard_in g) (row a.state g.kind (same_party g.receiver a.own) (option_map_or (same_party g.sender) a.stored false)) h

  -- *A tick*: what stands is sent again
  first_sent : (lab : Lab) (carried : ℕ) (stood : Stood) → IsKept ports most carried stood (view lab) → Is (sends_first lab (slice_get lab.console.desk.standing 0))
  first_sent lab carried Nothing h = subst (λ (standing : List Standing). Is (sends_first lab (slice_get standing 0))) (sym h.stands) (record { carried = carried; stood = Nothing; kept = h })
  first_sent lab carried (Lists n) h = (let s : StandsAs lab.console.desk n AllPorts = h.stands in
      subst (λ (standing : List Standing). Is (sends_first lab (slice_get standing 0))) (sym s.standing) (record {
        carried = carried;
        stood = Lists n;
        kept = said ports most carried (Lists n) lab (message_of lab.console.desk.rows n AllPorts)
            (list_may ports (course carried (Lists n) (view lab)) (made_in (view lab)) n s.early tt) h;
      }))
  first_sent lab carried (Commands n) h = (let s : IsFirst ports lab.commands (length lab.answers) lab.console.desk n = h.stands in
      subst (λ (standing : List Standing). Is (sends_first lab (slice_get standing 0))) (sym s.stands.standing) (record {
        carried = carried;
        stood = Commands n;
        kept = said ports most carried (Commands n) lab (message_of lab.console.desk.rows n s.command)
            (subst (λ (rows : List PortRow). MayAsk ports (course carried (Commands n) (view lab)) (made_in (view lab)) (octets_of (message_of rows n s.command))) (sym s.known)
            (command_may ports (course carried (Commands n) (view lab)) (made_in (view lab)) n s.command s.stands.early (λ e. refl) s.first)) h;
      }))

  again_sent : (lab : Lab) → Is lab → Is (sends_again lab)
  again_sent lab h = on_both Is (is_estab lab.console.adjacency.state) (sends_first lab (slice_get lab.console.desk.standing 0)) lab (first_sent lab h.carried h.stood h.kept) h

  tick_by : (lab : Lab) (reply : Reply) → Is lab → Is (ticks_with lab (followed_tick lab.console.adjacency reply))
  tick_by lab Resets h = resets_kept lab (shuts lab h)
  tick_by lab Silent h =
      let side : Side Party = record lab.console.adjacency { silence = counted lab.console.adjacency.state lab.console.adjacency.silence } in
      again_sent (with_side lab side) h
  tick_by lab (Says kind) h =
      let side : Side Party = record lab.console.adjacency { silence = counted lab.console.adjacency.state lab.console.adjacency.silence } in
      let g : Greeting = greeting_of (says_as lab.console.adjacency kind) in
      again_sent (says (with_side lab side) (messages.Adjacency g)) (says_greeting (with_side lab side) g h)

  pub tick_kept : (lab : Lab) → Is lab → Is (ticks_with lab (ticked lab.console.adjacency))
  tick_kept lab h = tick_by lab (tick_reply lab.console.adjacency.state (counted lab.console.adjacency.state lab.console.adjacency.silence)) h

  pub reset_kept : (lab : Lab) → Is lab → Is (resets lab)
  reset_kept lab h = resets_kept lab (shuts lab h)

  -- *The next command* is asked where nothing stands
  both : (a b : Bool) → (a && b) ≡ true → (a ≡ true) × (b ≡ true)
  both true b e = (refl, e)
  both false b e = absurd (cc e)

  asked_is : (desk : Desk) (q : Request) → desk.standing ≡ [] → asked desk q ≡ record { next = desk.next + 1; standing = record { number = desk.next; request = q } ∷ []; rows = desk.rows }
  asked_is desk q none = ap (λ (standing : List Standing). record { next = desk.next + 1; standing = filter (λ s. not (withdraws q s.request)) standing ++ record { number = desk.next; request = q } ∷ []; rows = desk.rows }) none

  command_asked : (lab : Lab) (carried : ℕ) (q : Request) → slice_get lab.commands (length lab.answers) ≡ Some q → lab.console.desk.rows ≡ first_rows ports → IsKept ports most carried Nothing (view lab) → Then (asks lab q)
  command_asked lab carried q first known h =
      let n : ℕ = lab.console.desk.next in
      let desk : Desk = record { next = n + 1; standing = record { number = n; request = q } ∷ []; rows = lab.console.desk.rows } in
      let asking : Lab = with_desk lab desk in
      let now : IsKept ports (most + 1) carried (Commands n) (view asking) = command_stands ports most carried (view lab) q first known h in
      subst (λ (d : Desk). Then (sends_request (with_desk lab d) (record { number = n; request = q }))) (sym (asked_is lab.console.desk q h.stands)) (record {
        carried = carried;
        stood = Commands n;
        kept = said ports (most + 1) carried (Commands n) asking (message_of lab.console.desk.rows n q)
            (subst (λ (rows : List PortRow). MayAsk ports (course carried (Commands n) (view asking)) (made_in (view asking)) (octets_of (message_of rows n q))) (sym known)
            (command_may ports (course carried (Commands n) (view asking)) (made_in (view asking)) n q (omega arith) (λ e. refl) first)) now;
      })

  by_next : (lab : Lab) (carried : ℕ) (o : Option Request) → next_command lab ≡ o → lab.console.desk.rows ≡ first_rows ports → IsKept ports most carried Nothing (view lab) → Then (asks_by lab o)
  by_next lab carried None e known h = then_more lab (record { carried = carried; stood = Nothing; kept = h })
  by_next lab carried (Some q) e known h = command_asked lab carried q e known h

  none_stands : (lab : Lab) (carried : ℕ) (stood : Stood) → is_estab lab.console.adjacency.state ≡ true → (length lab.console.desk.standing == 0) ≡ true → IsKept ports most carried stood (view lab)
      → Then (asks_by lab (next_command lab))
  none_stands lab carried Nothing estab none h = by_next lab carried (next_command lab) refl (h.known estab) h
  none_stands lab carried (Lists n) estab none h = (let s : StandsAs lab.console.desk n AllPorts = h.stands in
      absurd (cc (sym (ap (λ (standing : List Standing). length standing == 0) s.standing) ∙ none)))
  none_stands lab carried (Commands n) estab none h = (let s : IsFirst ports lab.commands (length lab.answers) lab.console.desk n = h.stands in
      absurd (cc (sym (ap (λ (standing : List Standing). length standing == 0) s.stands.standing) ∙ none)))

  pub next_asked : (lab : Lab) → Is lab → Then (asks_next lab)
  next_asked lab h = on_each Then (may_ask lab.console) (asks_by lab (next_command lab)) lab
      (λ e. (let t = both (is_estab lab.console.adjacency.state) (length lab.console.desk.standing == 0) e in none_stands lab h.carried h.stood t.0 t.1 h.kept))
      (λ e. then_more lab h)
