-- a tick of a port at peace, whole

use Rattle.std.proofs.Common.{◌≡◌, ℕ, ◌<◌, ◌+◌, Bool, true, false, List, [], ◌∷◌, ◌++◌, append_assoc, length, Some, refl, sym, ◌∙◌, ap, arith, if◌then◌else◌, map, fold}
use Rattle.std.specs.Prelude.{nat_lt, is_none, ◌||◌}
use Rattle.std.specs.List.{list_any}
use Rattle.std.proofs.lemmas.Bool.Decides.{nat_tests}
use Rattle.port_model.specs.Words.{Ack, Peer, Estab, State, Says, Resets, Side, Step, Send, hello_of, said, followed_tick, tick_reply, ticked, silence_limit, Desk, Setup, Grant, grant_label, Label, label_number, Session, Work, labels_of, label_range, one_idler, one_older, moves_windows, nudges, ticks_label, ticks_session}
use Rattle.port_model.specs.adjacency_table.Side.{counted}
use Rattle.port_model.specs.declared.action.Action.{Action}
use Rattle.port_model.specs.declared.action.Action.TheVariants.{Say}
use Rattle.port_model.specs.ifmp_wire.declared.message.Message.TheVariants.{Adjacency}
use Rattle.port_model.specs.Adjacency.{steps}
use Rattle.port_model.specs.Saying.{says}
use Rattle.port_model.specs.Ticks.{is_unpassed, ticks_next, ticks}
use Rattle.law_port_facts.specs.ordered_lists.Ordered.{Every}
use Rattle.law_live_ticks.specs.Law.{IsKept, IsAtPeace, shorter, is_due, told_anew, redirects_of, next_port, ticked_on, PortsTickOn}
use Rattle.law_live_ticks.proofs.Grants.{at_work, each_ages}
use Rattle.law_live_ticks.proofs.Labels.{each_ticks}

-- *The adjacency's tick*: an end in Estab that hears its peer says ACK
ticked_up : (a : Side Peer) → a.state ≡ Estab → a.silence < silence_limit
    → ticked a ≡ record { side = record a { silence = a.silence + 1 }; answer = Send (said a Ack) }
ticked_up a up heard =
    ap (followed_tick a) (ap (λ (st : State). tick_reply st (counted st a.silence)) up ∙ ap (λ (b : Bool). if b then Resets else Says Ack) (short a.silence silence_limit heard))
    ∙ ap (λ (st : State). let step : Step Peer = record { side = record a { silence = counted st a.silence }; answer = Send (said a Ack) } in step) up
  where
    short : (n limit : ℕ) → n < limit → nat_lt limit (n + 1) ≡ false
    short n limit low = grind (arith, nat_tests)

-- *No label waits* for an ACK
none_waits : (setup : Setup) (known : ℕ) (labels : List Label) → Every (IsKept setup) labels → list_any (λ label. is_unpassed known label.state) (map (told_anew setup) labels) ≡ false
none_waits setup known [] kept = refl
none_waits setup known (label ∷ labels) kept =
    ap (λ (b : Bool). b || list_any (λ label. is_unpassed known label.state) (map (told_anew setup) labels)) (ap (is_unpassed known) (still_offered ∙ kept.0.offered))
    ∙ none_waits setup known labels kept.1
  where
    still_offered : (told_anew setup label).state ≡ label.state
    still_offered = by (is_none label.join) (is_due setup label)
      where
        by : (none due : Bool) → (let older = one_older (if none then one_idler label else label) in if due then record older { ticks = 0 } else older).state ≡ label.state
        by true true = refl
        by true false = refl
        by false true = refl
        by false false = refl

module _ (setup : Setup) (desk : Desk) (w : Work) (s : Session) (peace : IsAtPeace setup w s) where
  abbrev side : Side Peer
  side = record w.port.adjacency { silence = w.port.adjacency.silence + 1 }

  abbrev greeted : List Action
  greeted = w.actions ++ Say (Adjacency (hello_of s.expected (said w.port.adjacency Ack))) ∷ []

  abbrev working : Session → List Grant → List Action → Work
  working = at_work side w.port.redirects w.instances

  -- a port at work is that of its parts
  parts : w ≡ at_work w.port.adjacency w.port.redirects w.instances s w.port.grants w.actions
  parts = λ i. record {
    port = record { adjacency = w.port.adjacency; session = peace.is_open i; grants = w.port.grants; redirects = w.port.redirects };
    actions = w.actions;
    halted = peace.going i;
    instances = w.instances;
  }

  greets_first : ticks setup desk w ≡ ticks_session setup desk (working s w.port.grants greeted) (Some s)
  greets_first = ap (ticks setup desk) parts
      ∙ ap (λ step. ticks_next setup desk (steps setup (at_work w.port.adjacency w.port.redirects w.instances s w.port.grants w.actions) step)) (ticked_up w.port.adjacency peace.up peace.heard)

  abbrev labelled : List Action
  labelled = greeted ++ redirects_of setup w s

  abbrev told : Session
  told = record s { labels = map (told_anew setup) s.labels; number = s.number + length (redirects_of setup w s) }

  quiet : nudges setup (working told (map shorter w.port.grants) labelled) ≡ working told (map shorter w.port.grants) labelled
  quiet = ap (λ (b : Bool). if b then says (working told (map shorter w.port.grants) labelled) (label_range setup) else working told (map shorter w.port.grants) labelled)
      (none_waits setup s.known s.labels peace.labels)

  ticks_on : ticks setup desk w ≡ ticked_on setup w s
  ticks_on = greets_first
      ∙ (ap (λ (v : Work). moves_windows setup (nudges setup (fold (ticks_label setup desk) v (map label_number (labels_of v.port)))))
      (each_ages setup side w.port.redirects w.instances s greeted [] w.port.grants (none_before w.port.grants) peace.grants_apart peace.grants)
      ∙ (ap (λ (v : Work). moves_windows setup (nudges setup v))
      (each_ticks setup desk side w.port.redirects w.instances (map shorter w.port.grants) s [] s.labels s.number greeted (none_before_labels s.labels) peace.labels_apart peace.labels peace.numbers)
      ∙ (ap (moves_windows setup) quiet ∙ whole)))
    where
      none_before : (grants : List Grant) → Every (λ (a : Grant). Every (λ (b : Grant). grant_label b ≡ grant_label a → ⊥) []) grants
      none_before [] = tt
      none_before (grant ∷ grants) = (tt, none_before grants)

      none_before_labels : (labels : List Label) → Every (λ (a : Label). Every (λ (b : Label). label_number b ≡ label_number a → ⊥) []) labels
      none_before_labels [] = tt
      none_before_labels (label ∷ labels) = (tt, none_before_labels labels)

      whole : moves_windows setup (working told (map shorter w.port.grants) labelled) ≡ ticked_on setup w s
      whole = λ i. record {
        port = next_port setup w s;
        actions = append_assoc w.actions (Say (Adjacency (hello_of s.expected (said w.port.adjacency Ack))) ∷ []) (redirects_of setup w s) i;
        halted = sym peace.going i;
        instances = w.instances;
      }

pub ports_tick_on : PortsTickOn
ports_tick_on setup desk w s peace = ticks_on setup desk w s peace
