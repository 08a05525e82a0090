-- what a port keeps and says fits behind each of its rules

use Rattle.std.proofs.Common.{◌≡◌, ℕ, ◌<◌, ◌+◌, Bool, true, false, List, [], ◌∷◌, ◌++◌, Option, None, Some, refl, subst, arith, fold, map, if◌then◌else◌}
use Rattle.std.specs.Prelude.{◌^◌, ◌-◌, ◌==◌, ◌&&◌, ◌||◌, nat_lt, nat_le, max, min, flat_map, is_none}
use Rattle.std.specs.Option.{option_map_or}
use Rattle.std.proofs.lemmas.Bool.Decides.{nat_tests}
use Rattle.law_port_facts.specs.port_model.Words.{Addr, Channel, End, Instance, Hello, HelloKind, Syn, Synack, Rstack, Ack, Peer, label_number_of, label_channel_of, number_of_channel, Answer, Heard, Said, Side, Step, said, answer_to, answer_of, is_entry, followed, followed_tick, ticked, Reply, Silent, Says, Resets, Row, heard_from, next_in, hello_of, ifmp_answer, ifmp_received, FlowId, same_flow, FitsFields, Request, AddBranch, MoveBranch, DeleteTree, VerifyTree, PortManagement, Redirect, Reclaim, ReclaimAck, LabelRange, Error, FitsMessage, Bind, Free, Opened, at, entered, key_le, Desk, on_input, Setup, label_end, control_end, Label, LabelState, Wiring, Offered, Recalled, Wired, label_number, label_for, lowest_spare, Grant, GrantState, Idle, ByController, ByInput, Leaving, Acceptance, New, Refreshed, IsLeaving, GrantsFull, acceptance, acceptance_of, acceptance_beside, is_leaving, grant_on, grant_label, counted_once, packets_in, Session, Work, with_session, with_label, with_new_label, without_label, with_grants, with_grant, without_grant, label_at, labels_of, known_of, desk_after, has_room, greets, redirect, reclaim, reclaim_ack, label_range, error, last_number, first_session, opens, unwires, quits_label, quits_in, quits_found, quits, is_good, learns, is_from_peer, is_due, takes, expects, accepts, grants_label, reclaims_in, reclaims, unjoins, recalls, recalls_in, recalls_offered, reclaimed_in, reclaimed, acknowledged_in, acknowledged, narrowed, is_outside, recalls_outside, ranged, error_comes, label_by, hears, packet_flow, wires, used_label, counts_flow, counts_by, counts, used, bound_in, bound, freed_in, freed, started_in, started, expires, ages_in, ages_found, ages, refreshes, one_older, one_idler, idles, ticks_in, ticks_found, ticks_label, asks_for_ack, nudges, ticks_session, joins_label, parted, lent, given_back_in, given_back, closing, left_in, left_of, taking_back_in, taking_back, withdrawing_in, withdrawing_of, withdrawing, resets, restarts}
use Rattle.law_port_facts.specs.port_model.adjacency_table.declared.message.Answer.TheVariants as answer
use Rattle.law_port_facts.specs.port_model.adjacency_table.Side.{answer_opened}
use Rattle.law_port_facts.specs.port_model.gsmp_wire.declared.request.Request.TheVariants.{DeleteAll, AllPorts}
use Rattle.law_port_facts.specs.port_model.ifmp_wire.declared.message.Message.{Message}
use Rattle.law_port_facts.specs.port_model.ifmp_wire.declared.message.Message.TheVariants.{Adjacency}
use Rattle.law_port_facts.specs.port_model.link_model.declared.record.Record.TheVariants.{Join}
use Rattle.law_port_facts.specs.ordered_lists.Ordered.{Every}
use Rattle.law_port_facts.proofs.ordered_lists.Every.{every_join}
use Rattle.law_port_facts.proofs.Keyed.{on_both, on_each, at_every, entered_every, every_more}
use Rattle.law_port_facts.proofs.Found.{find_every}
use Rattle.law_port_facts.specs.port_model.declared.action.Action.TheVariants.{Say, Ask, Note, CutChain, TakeBack}
use Rattle.law_port_facts.specs.port_model.Grants.{OutOfRange, Taken}
use Rattle.law_port_facts.specs.port_model.Counts.{window_moved}
use Rattle.law_port_facts.specs.port_model.Port.{Port, with_action}
use Rattle.law_port_facts.specs.port_model.Saying.{says}
use Rattle.law_port_facts.specs.port_model.Adjacency.{answers, steps, greeted}
use Rattle.law_port_facts.specs.port_model.Redirection.{redirected}
use Rattle.law_port_facts.specs.port_model.Answers.{done}
use Rattle.law_port_facts.specs.port_model.Ticks.{ticks}
use Rattle.law_port_facts.specs.port_model.Joins.{joined}
use Rattle.law_port_facts.specs.port_model.Resets.{cleared}
use Rattle.law_port_widths.specs.Widths.{FitsPeer, FitsStored, FitsLabel, FitsGrant, FitsPort, FitsAction, FitsWork, FitsSetup}
use Rattle.law_port_widths.proofs.Keeping.{Small, acts_fit, halts_fit, session_fits, label_fits, no_label_fits, grants_fit, grant_fits, no_grant_fits, found_label, found_grant, tells_fit, says_fit, redirect_fits, reclaim_fits, ack_fits, label_ack_fits, range_fits, error_fits, fold_fits}

-- what is found fits
abbrev Known : {A : Type 0} → (A → Type 0) → Option A → Type 0
Known P None = Unit {0}
Known P (Some x) = P x

known_at : (w : Work) (number : ℕ) → FitsWork w → Known FitsLabel (label_at w.port number)
known_at w number h = by (label_at w.port number) refl
  where
    by : (o : Option Label) → label_at w.port number ≡ o → Known FitsLabel o
    by None e = tt
    by (Some x) e = found_label w number x e h

known_by : (w : Work) (n : Option ℕ) → FitsWork w → Known FitsLabel (label_by w.port n)
known_by w None h = tt
known_by w (Some number) h = known_at w number h

known_grant_at : (w : Work) (label : ℕ) → FitsWork w → Known FitsGrant (at grant_label label w.port.grants)
known_grant_at w label h = by (at grant_label label w.port.grants) refl
  where
    by : (o : Option Grant) → at grant_label label w.port.grants ≡ o → Known FitsGrant o
    by None e = tt
    by (Some grant) e = found_grant w label grant e h

known_grant : (w : Work) (n : Option ℕ) → FitsWork w → Known FitsGrant (grant_on w.port.grants n)
known_grant w None h = tt
known_grant w (Some label) h = known_grant_at w label h

-- *What the table answers* names the own party, the stored one, or the two of the message
abbrev FitsSpoken : Said Peer → Type 0
FitsSpoken m = Small m.sender.instance.0 × FitsStored m.receiver

abbrev FitsAnswer : Answer (Said Peer) Peer → Type 0
FitsAnswer answer.Quiet = Unit {0}
FitsAnswer (answer.Send m) = FitsSpoken m
FitsAnswer (answer.Open None own) = Unit {0}
FitsAnswer (answer.Open (Some m) own) = FitsSpoken m
FitsAnswer answer.Reset = Unit {0}

record FitsStep (step : Step Peer) : Type 0 where
  own : FitsPeer step.side.own
  stored : FitsStored step.side.stored
  answer : FitsAnswer step.answer

record FitsHeard (m : Heard Peer) : Type 0 where
  sender : FitsPeer m.sender
  receiver : FitsPeer m.receiver

said_fits : (a : Side Peer) (kind : HelloKind) → FitsPeer a.own → FitsStored a.stored → FitsSpoken (said a kind)
said_fits a Syn own stored = (own.0, tt)
said_fits a Synack own stored = (own.0, stored)
said_fits a Rstack own stored = (own.0, stored)
said_fits a Ack own stored = (own.0, stored)

answer_to_fits : (a : Side Peer) (m : Heard Peer) (kind : HelloKind) → FitsPeer a.own → FitsStored a.stored → FitsHeard m → FitsSpoken (answer_to a m kind)
answer_to_fits a m Syn own stored h = (own.0, tt)
answer_to_fits a m Synack own stored h = (own.0, stored)
answer_to_fits a m Rstack own stored h = (h.receiver.0, h.sender)
answer_to_fits a m Ack own stored h = (own.0, stored)

reply_fits : (says : HelloKind → Said Peer) (reply : Reply) → ((kind : HelloKind) → FitsSpoken (says kind)) → FitsAnswer (answer_of says reply)
reply_fits says Silent each = tt
reply_fits says (Says kind) each = each kind
reply_fits says Resets each = tt

opened_fits : (own : Peer) (a : Answer (Said Peer) Peer) → FitsAnswer a → FitsAnswer (answer_opened own a)
opened_fits own answer.Quiet h = tt
opened_fits own (answer.Send m) h = h
opened_fits own (answer.Open None other) h = tt
opened_fits own (answer.Open (Some m) other) h = h
opened_fits own answer.Reset h = tt

followed_fits : (a : Side Peer) (m : Heard Peer) (r : Row) → FitsPeer a.own → FitsStored a.stored → FitsHeard m → FitsStep (followed a m r)
followed_fits a m r own stored h =
    let next : Side Peer = (followed a m r).side in
    let kept : FitsStored next.stored = on_both FitsStored r.stores (Some m.sender) a.stored h.sender stored in
    let plain : Answer (Said Peer) Peer = answer_of (answer_to next m) r.reply in
    let fits : FitsAnswer plain = reply_fits (answer_to next m) r.reply (λ kind. answer_to_fits next m kind own kept h) in
    record { own = own; stored = kept; answer = on_both FitsAnswer (is_entry a.state r.next) (answer_opened a.own plain) plain (opened_fits a.own plain fits) fits }

ticked_fits : (a : Side Peer) (reply : Reply) → FitsPeer a.own → FitsStored a.stored → FitsStep (followed_tick a reply)
ticked_fits a Silent own stored = record { own = own; stored = stored; answer = tt }
ticked_fits a (Says kind) own stored = record { own = own; stored = stored; answer = said_fits a kind own stored }
ticked_fits a Resets own stored = record { own = own; stored = stored; answer = tt }

-- a message as it is written
stored_instance : (o : Option Peer) → FitsStored o → Small (option_map_or (λ (p : Peer). p.instance.0) o 0)
stored_instance None h = omega arith
stored_instance (Some p) h = h.0

stored_address : (o : Option Peer) → FitsStored o → Small (option_map_or (λ (p : Peer). p.address.0) o 0)
stored_address None h = omega arith
stored_address (Some p) h = h.1

next_fits : (kind : HelloKind) (next : ℕ) → Small next → Small (next_in kind next)
next_fits Syn next h = omega arith
next_fits Synack next h = h
next_fits Rstack next h = omega arith
next_fits Ack next h = h

hello_fits : (next : ℕ) (m : Said Peer) → Small next → FitsSpoken m → FitsMessage (Adjacency (hello_of next m))
hello_fits next m small h = ((h.0, stored_instance m.receiver h.1, stored_address m.receiver h.1), next_fits m.kind next small)

module _ (setup : Setup) where
  opens_fit : (w : Work) → FitsWork w → FitsWork (opens setup w)
  opens_fit w h = acts_fit (record w { port = record w.port { session = Some (first_session setup) } }) (Note (Opened setup.node setup.port)) tt
      (record { port = record { own = h.port.own; stored = h.port.stored; expected = omega arith; labels = tt; grants = h.port.grants }; said = h.said })

  answers_fit : (w : Work) (next : ℕ) (a : Answer (Said Peer) Peer) → Small next → FitsAnswer a → FitsWork w → FitsWork (answers setup w (ifmp_answer next a))
  answers_fit w next answer.Quiet small fits h = h
  answers_fit w next (answer.Send m) small fits h = acts_fit w (Say (Adjacency (hello_of next m))) (hello_fits next m small fits) h
  answers_fit w next (answer.Open None own) small fits h = opens_fit w h
  answers_fit w next (answer.Open (Some m) own) small fits h = opens_fit (greets w (hello_of next m)) (acts_fit w (Say (Adjacency (hello_of next m))) (hello_fits next m small fits) h)
  answers_fit w next answer.Reset small fits h = halts_fit w h

  steps_fit : (w : Work) (step : Step Peer) → FitsStep step → FitsWork w → FitsWork (steps setup w step)
  steps_fit w step fits h = answers_fit (record w { port = record w.port { adjacency = step.side } }) (option_map_or (λ (s : Session). s.expected) w.port.session 1) step.answer h.port.expected fits.answer
      (record { port = record { own = fits.own; stored = fits.stored; expected = h.port.expected; labels = h.port.labels; grants = h.port.grants }; said = h.said })

-- *A label is in use*
used_label_fit : (w : Work) (o : Option Label) → Known FitsLabel o → FitsWork w → FitsWork (used_label w o)
used_label_fit w None known h = h
used_label_fit w (Some x) known h = label_fits w (record x { idle = 0 }) known h

pub used_fit : (w : Work) (number : ℕ) → FitsWork w → FitsWork (used w number)
used_fit w number h = used_label_fit w (label_at w.port number) (known_at w number h) h

module _ (setup : Setup) (fixed : FitsSetup setup) where
  -- *The switch has done what the port asked*
  bound_in_fit : (w : Work) (x : Label) (state : LabelState) → FitsLabel x → FitsWork w → FitsWork (bound_in setup w x state)
  bound_in_fit w x Wiring fits h = says_fit (with_action (with_label w (record x { state = Offered })) (Note (Bind setup.node setup.port x.number x.flow))) (redirect setup x) (redirect_fits setup x fixed fits)
      (acts_fit (with_label w (record x { state = Offered })) (Note (Bind setup.node setup.port x.number x.flow)) tt (label_fits w (record x { state = Offered }) fits h))
  bound_in_fit w x Offered fits h = h
  bound_in_fit w x (Recalled last acknowledged) fits h = h
  bound_in_fit w x Wired fits h = h

  bound_fit : (w : Work) (o : Option Label) → Known FitsLabel o → FitsWork w → FitsWork (bound setup w o)
  bound_fit w None known h = h
  bound_fit w (Some x) known h = bound_in_fit w x x.state known h

  freed_in_fit : (w : Work) (x : Label) (state : LabelState) → FitsWork w → FitsWork (freed_in setup w x state)
  freed_in_fit w x Wiring h = h
  freed_in_fit w x Offered h = h
  freed_in_fit w x (Recalled last acknowledged) h = h
  freed_in_fit w x Wired h = acts_fit (without_label w x.number) (Note (Free setup.node setup.port x.number)) tt (no_label_fits w x.number h)

  freed_fit : (w : Work) (o : Option Label) → FitsWork w → FitsWork (freed setup w o)
  freed_fit w None h = h
  freed_fit w (Some x) h = freed_in_fit w x x.state h

  started_in_fit : (w : Work) (grant : Grant) (state : GrantState) → FitsGrant grant → FitsWork w → FitsWork (started_in w grant state)
  started_in_fit w grant Idle fits h = grant_fits w (record grant { state = ByController }) fits h
  started_in_fit w grant ByController fits h = h
  started_in_fit w grant (ByInput input) fits h = h
  started_in_fit w grant (Leaving input owed) fits h = h

  started_fit : (w : Work) (o : Option Grant) → Known FitsGrant o → FitsWork w → FitsWork (started w o)
  started_fit w None known h = h
  started_fit w (Some grant) known h = started_in_fit w grant grant.state known h

  pub done_fit : (w : Work) (request : Request) → FitsWork w → FitsWork (done setup w request)
  done_fit w (AddBranch input output) h = on_both FitsWork (input.port.0 == 0) (started w (grant_on w.port.grants (label_number_of output.channel))) (bound setup w (label_by w.port (label_number_of input.channel)))
      (started_fit w (grant_on w.port.grants (label_number_of output.channel)) (known_grant w (label_number_of output.channel) h) h)
      (bound_fit w (label_by w.port (label_number_of input.channel)) (known_by w (label_number_of input.channel) h) h)
  done_fit w (MoveBranch input from to) h = on_both FitsWork (to.port.0 == 0) w
      (with_action w (Note (Join setup.node setup.port (number_of_channel input.channel) to.port (number_of_channel to.channel)))) h
      (acts_fit w (Note (Join setup.node setup.port (number_of_channel input.channel) to.port (number_of_channel to.channel))) tt h)
  done_fit w (DeleteTree input) h = freed_fit w (label_by w.port (label_number_of input.channel)) h
  done_fit w (VerifyTree input) h = h
  done_fit w (DeleteAll port) h = h
  done_fit w (PortManagement port function) h = h
  done_fit w AllPorts h = h

module _ (setup : Setup) (desk : Desk) (fixed : FitsSetup setup) where
  -- *Quits*, and a good ACK
  unwires_fit : (w : Work) (number : ℕ) → FitsWork w → FitsWork (unwires setup desk w number)
  unwires_fit w number h = on_both FitsWork (on_input (desk_after desk w) (label_end setup.port number) || has_room desk w)
      (with_action w (Ask (DeleteTree (label_end setup.port number)) (on_input (desk_after desk w) (label_end setup.port number)))) w
      (acts_fit w (Ask (DeleteTree (label_end setup.port number)) (on_input (desk_after desk w) (label_end setup.port number))) tt h) h

  quits_label_fit : (w : Work) (x : Label) → FitsLabel x → FitsWork w → FitsWork (quits_label setup desk w x)
  quits_label_fit w x fits h = unwires_fit (with_action (with_label w (record x { state = Wired })) (CutChain x.number)) x.number
      (acts_fit (with_label w (record x { state = Wired })) (CutChain x.number) tt (label_fits w (record x { state = Wired }) fits h))

  quits_in_fit : (w : Work) (x : Label) (state : LabelState) → FitsLabel x → FitsWork w → FitsWork (quits_in setup desk w x state)
  quits_in_fit w x Wiring fits h = h
  quits_in_fit w x Offered fits h = h
  quits_in_fit w x (Recalled last true) fits h = on_both FitsWork (nat_lt last (known_of w.port)) (quits_label setup desk w x) w (quits_label_fit w x fits h) h
  quits_in_fit w x (Recalled last false) fits h = h
  quits_in_fit w x Wired fits h = h

  quits_found_fit : (w : Work) (o : Option Label) → Known FitsLabel o → FitsWork w → FitsWork (quits_found setup desk w o)
  quits_found_fit w None known h = h
  quits_found_fit w (Some x) known h = quits_in_fit w x x.state known h

  quits_fit : (w : Work) (number : ℕ) → FitsWork w → FitsWork (quits setup desk w number)
  quits_fit w number h = quits_found_fit w (label_at w.port number) (known_at w number h) h

  learns_fit : (w : Work) (next : ℕ) → FitsWork w → FitsWork (learns setup desk w next)
  learns_fit w next h =
      let told : Work = with_session w (λ s. record s { known = max s.known next }) in
      fold_fits (quits setup desk) quits_fit (map label_number (labels_of told.port)) told (session_fits w (λ s. record s { known = max s.known next }) (λ z e l. (e, l)) h)

  greeted_fit : (w : Work) (source : Addr) (hello : Hello) → Small source.0 → FitsMessage (Adjacency hello) → FitsWork w → FitsWork (greeted setup desk w source hello)
  greeted_fit w source hello small fits h =
      let step : Step Peer = ifmp_received w.port.adjacency source hello in
      let next : Work = steps setup w step in
      let k : FitsWork next = steps_fit setup w step (followed_fits w.port.adjacency (heard_from source hello) _ h.port.own h.port.stored
      (record { sender = (fits.0.0, small); receiver = (fits.0.1, fits.0.2) })) h in
      on_both FitsWork (is_good w.port.adjacency step.side (heard_from source hello)) (learns setup desk next hello.next) next (learns_fit next hello.next k) k

  -- *Redirection messages* are taken under a number below the last
  due_below : (o : Option Session) (number : ℕ) → is_due o number ≡ true → number < last_number
  due_below None number e = absurd (cc e)
  due_below (Some s) number e = grind (arith, nat_tests)

  both_right : (a b : Bool) → (a && b) ≡ true → b ≡ true
  both_right true b e = e
  both_right false b e = absurd (cc e)

  expects_fit : (w : Work) (source : Addr) (sender peer : Instance) (number : ℕ) → takes w.port source sender peer number ≡ true → FitsWork w → FitsWork (expects w number)
  expects_fit w source sender peer number taken h =
      let low : number < last_number = due_below w.port.session number (both_right (is_from_peer w.port.adjacency source sender peer) (is_due w.port.session number) taken) in
      let k : FitsWork (with_session w (λ s. record s { expected = number + 1 })) = session_fits w (λ s. record s { expected = number + 1 }) (λ z e l. (omega (arith, low), l)) h in
      record { port = record { own = k.port.own; stored = k.port.stored; expected = k.port.expected; labels = k.port.labels; grants = k.port.grants }; said = k.said }

  -- *Redirect*
  abbrev FitsAcceptance : Acceptance → Type 0
  FitsAcceptance (Refreshed grant) = FitsGrant grant
  FitsAcceptance a = Unit {0}

  acceptance_fits : (grants : List Grant) (channel : Channel) (flow : FlowId) → Every FitsGrant grants → FitsAcceptance (acceptance setup grants channel flow)
  acceptance_fits grants channel flow all = of_number (label_number_of channel)
    where
      beside : (label : ℕ) (o : Option Grant) → at grant_label label grants ≡ o → FitsAcceptance (acceptance_beside grants label flow o)
      beside label None found = on_both FitsAcceptance _ (New label) GrantsFull tt tt
      beside label (Some grant) found = on_both FitsAcceptance _ Taken _ tt (on_both FitsAcceptance (is_leaving grant.state) IsLeaving (Refreshed grant) tt (at_every grant_label FitsGrant label grants grant all found))

      of_number : (o : Option ℕ) → FitsAcceptance (acceptance_of setup grants flow o)
      of_number None = tt
      of_number (Some label) = on_both FitsAcceptance _ (acceptance_beside grants label flow (at grant_label label grants)) OutOfRange (beside label (at grant_label label grants) refl) tt

  accepts_fit : (w : Work) → FitsWork w → FitsWork (accepts w)
  accepts_fit w h = record { port = record { own = h.port.own; stored = h.port.stored; expected = h.port.expected; labels = h.port.labels; grants = h.port.grants }; said = h.said }

  redirected_fit : (w : Work) (channel : Channel) (flow : FlowId) (lifetime : ℕ) (a : Acceptance) → channel.vci < 2 ^ 16 → FitsFields flow → FitsAcceptance a → FitsWork w
      → FitsWork (redirected setup desk w channel flow lifetime a)
  redirected_fit w channel flow lifetime (New label) vci fits made h =
      let gs : List Grant = w.port.grants ++ record { label = label; flow = flow; lifetime = lifetime; state = Idle } ∷ [] in
      on_both FitsWork (has_room desk w) (grants_label setup w label flow lifetime) w
      (acts_fit (with_grants (accepts w) gs) _ tt (grants_fit (accepts w) gs (every_more FitsGrant w.port.grants _ h.port.grants fits) (accepts_fit w h))) h
  redirected_fit w channel flow lifetime (Refreshed grant) vci fits made h = grant_fits (accepts w) (record grant { lifetime = lifetime }) made (accepts_fit w h)
  redirected_fit w channel flow lifetime OutOfRange vci fits made h = says_fit w (label_range setup) (range_fits setup) h
  redirected_fit w channel flow lifetime Taken vci fits made h = says_fit w (error 1 channel) (error_fits 1 channel (omega arith) vci) h
  redirected_fit w channel flow lifetime IsLeaving vci fits made h = says_fit w (error 2 channel) (error_fits 2 channel (omega arith) vci) h
  redirected_fit w channel flow lifetime GrantsFull vci fits made h = says_fit w (error 3 channel) (error_fits 3 channel (omega arith) vci) h

  -- *Reclaim*
  reclaimed_in_fit : (w : Work) (channel : Channel) (grant : Grant) (state : GrantState) → channel.vci < 2 ^ 16 → FitsGrant grant → FitsWork w → FitsWork (reclaimed_in setup w channel grant state)
  reclaimed_in_fit w channel grant Idle vci fits h = says_fit (without_grant w grant.label) (reclaim_ack channel grant.flow) (ack_fits channel grant.flow vci fits) (no_grant_fits w grant.label h)
  reclaimed_in_fit w channel grant ByController vci fits h = says_fit (without_grant w grant.label) (reclaim_ack channel grant.flow) (ack_fits channel grant.flow vci fits) (no_grant_fits w grant.label h)
  reclaimed_in_fit w channel grant (ByInput input) vci fits h = acts_fit (with_grant w (record grant { state = Leaving input true })) (TakeBack input (label_end setup.port grant.label)) tt
      (grant_fits w (record grant { state = Leaving input true }) fits h)
  reclaimed_in_fit w channel grant (Leaving input owed) vci fits h = grant_fits w (record grant { state = Leaving input true }) fits h

  reclaimed_fit : (w : Work) (channel : Channel) (flow : FlowId) (o : Option Grant) → channel.vci < 2 ^ 16 → FitsFields flow → Known FitsGrant o → FitsWork w
      → FitsWork (reclaimed setup w channel flow o)
  reclaimed_fit w channel flow None vci fits known h = says_fit w (reclaim_ack channel flow) (ack_fits channel flow vci fits) h
  reclaimed_fit w channel flow (Some grant) vci fits known h = on_both FitsWork (same_flow grant.flow flow) (reclaimed_in setup w channel grant grant.state) (says w (error 4 channel))
      (reclaimed_in_fit w channel grant grant.state vci known h) (says_fit w (error 4 channel) (error_fits 4 channel (omega arith) vci) h)

  -- *Reclaim Ack*
  acknowledged_in_fit : (w : Work) (x : Label) (state : LabelState) → FitsLabel x → FitsWork w → FitsWork (acknowledged_in setup desk w x state)
  acknowledged_in_fit w x Wiring fits h = h
  acknowledged_in_fit w x Offered fits h = h
  acknowledged_in_fit w x (Recalled last acknowledged) fits h = quits_fit (with_label w (record x { state = Recalled last true })) x.number (label_fits w (record x { state = Recalled last true }) fits h)
  acknowledged_in_fit w x Wired fits h = h

  acknowledged_fit : (w : Work) (flow : FlowId) (o : Option Label) → Known FitsLabel o → FitsWork w → FitsWork (acknowledged setup desk w flow o)
  acknowledged_fit w flow None known h = h
  acknowledged_fit w flow (Some x) known h = on_both FitsWork (same_flow x.flow flow) (acknowledged_in setup desk w x x.state) w (acknowledged_in_fit w x x.state known h) h

  -- *Recalls*
  reclaims_in_fit : (w : Work) (x : Label) (o : Option Session) → FitsLabel x → FitsWork w → FitsWork (reclaims_in w x o)
  reclaims_in_fit w x None fits h = h
  reclaims_in_fit w x (Some s) fits h = says_fit (with_label w (record x { state = Recalled (min last_number s.number) false })) (reclaim x) (reclaim_fits x fits)
      (label_fits w (record x { state = Recalled (min last_number s.number) false }) fits h)

  unjoins_fit : (w : Work) (number : ℕ) (o : Option End) → FitsWork w → FitsWork (unjoins setup w number o)
  unjoins_fit w number None h = h
  unjoins_fit w number (Some output) h = acts_fit w (TakeBack (label_end setup.port number) output) tt h

  recalls_fit : (w : Work) (x : Label) → FitsLabel x → FitsWork w → FitsWork (recalls setup w x)
  recalls_fit w x fits h = unjoins_fit (reclaims w x) x.number x.join (reclaims_in_fit w x w.port.session fits h)

  recalls_in_fit : (w : Work) (x : Label) (state : LabelState) → FitsLabel x → FitsWork w → FitsWork (recalls_in setup w x state)
  recalls_in_fit w x Wiring fits h = h
  recalls_in_fit w x Offered fits h = recalls_fit w x fits h
  recalls_in_fit w x (Recalled last acknowledged) fits h = h
  recalls_in_fit w x Wired fits h = h

  recalls_offered_fit : (w : Work) (o : Option Label) → Known FitsLabel o → FitsWork w → FitsWork (recalls_offered setup w o)
  recalls_offered_fit w None known h = h
  recalls_offered_fit w (Some x) known h = recalls_in_fit w x x.state known h

  recalls_outside_fit : (w : Work) (number : ℕ) → FitsWork w → FitsWork (recalls_outside setup w number)
  recalls_outside_fit w number h = on_both FitsWork (is_outside w.port.session number) (recalls_offered setup w (label_at w.port number)) w
      (recalls_offered_fit w (label_at w.port number) (known_at w number h) h) h

  ranged_fit : (w : Work) (least greatest : Channel) → FitsWork w → FitsWork (ranged setup w least greatest)
  ranged_fit w least greatest h =
      let next : Work = with_session w (narrowed least greatest) in
      fold_fits (recalls_outside setup) recalls_outside_fit (map label_number (labels_of next.port)) next (session_fits w (narrowed least greatest) (λ z e l. (e, l)) h)

  error_fit : (w : Work) (code : ℕ) (o : Option Label) → Known FitsLabel o → FitsWork w → FitsWork (error_comes setup w code o)
  error_fit w code o known h = on_both FitsWork (code == 2) w (recalls_offered setup w o) h (recalls_offered_fit w o known h)

  -- *A message is heard*
  pub hears_fit : (w : Work) (source : Addr) (message : Message) → Small source.0 → FitsMessage message → FitsWork w → FitsWork (hears setup desk w source message)
  hears_fit w source (Adjacency hello) small fits h = greeted_fit w source hello small fits h
  hears_fit w source (Redirect sender peer number lifetime channel flow) small fits h = on_each FitsWork (takes w.port source sender peer number)
      (redirected setup desk (expects w number) channel flow lifetime (acceptance setup w.port.grants channel flow)) w
      (λ t. redirected_fit (expects w number) channel flow lifetime (acceptance setup w.port.grants channel flow) fits.2 fits.3 (acceptance_fits w.port.grants channel flow h.port.grants)
      (expects_fit w source sender peer number t h)) (λ t. h)
  hears_fit w source (Reclaim sender peer number channel flow) small fits h = on_each FitsWork (takes w.port source sender peer number)
      (reclaimed setup (expects w number) channel flow (grant_on w.port.grants (label_number_of channel))) w
      (λ t. reclaimed_fit (expects w number) channel flow (grant_on w.port.grants (label_number_of channel)) fits.1 fits.2 (known_grant w (label_number_of channel) h)
      (expects_fit w source sender peer number t h)) (λ t. h)
  hears_fit w source (ReclaimAck sender peer number channel flow) small fits h = on_each FitsWork (takes w.port source sender peer number)
      (acknowledged setup desk (expects w number) flow (label_by w.port (label_number_of channel))) w
      (λ t. acknowledged_fit (expects w number) flow (label_by w.port (label_number_of channel)) (known_by w (label_number_of channel) h) (expects_fit w source sender peer number t h)) (λ t. h)
  hears_fit w source (LabelRange sender peer number least greatest) small fits h = on_each FitsWork (takes w.port source sender peer number) (ranged setup (expects w number) least greatest) w
      (λ t. ranged_fit (expects w number) least greatest (expects_fit w source sender peer number t h)) (λ t. h)
  hears_fit w source (Error sender peer number code channel) small fits h = on_each FitsWork (takes w.port source sender peer number)
      (error_comes setup (expects w number) code (label_by w.port (label_number_of channel))) w
      (λ t. error_fit (expects w number) code (label_by w.port (label_number_of channel)) (known_by w (label_number_of channel) h) (expects_fit w source sender peer number t h)) (λ t. h)

  -- *A packet is counted*: its flow fits
  wires_fit : (w : Work) (flow : FlowId) (o : Option ℕ) → FitsFields flow → FitsWork w → FitsWork (wires setup w flow o)
  wires_fit w flow None fits h = h
  wires_fit w flow (Some number) fits h =
      let label : Label = record { number = number; state = Wiring; flow = flow; idle = 0; ticks = 0; join = None } in
      acts_fit (with_new_label w label) (Ask (AddBranch (label_end setup.port number) (control_end setup.port number)) false) tt
      (session_fits w (λ s. record s { labels = entered (key_le label_number) label s.labels }) (λ s e l. (e, entered_every label_number FitsLabel (key_le label_number) label s.labels fits l)) h)

  known_for : (labels : List Label) (flow : FlowId) → Every FitsLabel labels → Known FitsLabel (label_for labels flow)
  known_for labels flow all = by (label_for labels flow) refl
    where
      by : (o : Option Label) → label_for labels flow ≡ o → Known FitsLabel o
      by None e = tt
      by (Some x) e = find_every FitsLabel _ labels x all e

  counts_flow_fit : (w : Work) (s : Session) (flow : FlowId) (o : Option Label) → w.port.session ≡ Some s → Known FitsLabel o → FitsFields flow → FitsWork w
      → FitsWork (counts_flow setup desk w s flow o)
  counts_flow_fit w s flow (Some x) opened known fits h = used_label_fit w (Some x) known h
  counts_flow_fit w s flow None opened known fits h =
      let next : Session = record s { counted = counted_once s.counted flow } in
      let v : Work = with_session w (λ old. next) in
      let k : FitsWork v = session_fits w (λ old. next) (λ z e l. (session_now s opened h.port.expected, labels_now s opened h.port.labels)) h in
      on_both FitsWork (setup.policy.offers flow (packets_in next.counted flow) && has_room desk v) (wires setup v flow (lowest_spare setup next.least next.greatest next.labels)) v
      (wires_fit v flow (lowest_spare setup next.least next.greatest next.labels) fits k) k
    where
      session_now : (z : Session) → w.port.session ≡ Some z → Small (option_map_or (λ (y : Session). y.expected) w.port.session 1) → Small z.expected
      session_now z e k = subst (λ (o : Option Session). Small (option_map_or (λ (y : Session). y.expected) o 1)) e k

      labels_now : (z : Session) → w.port.session ≡ Some z → Every FitsLabel (labels_of w.port) → Every FitsLabel z.labels
      labels_now z e k = subst (λ (o : Option Session). Every FitsLabel (option_map_or (λ (y : Session). y.labels) o [])) e k

  counts_by_fit : (w : Work) (o : Option Session) (f : Option FlowId) → w.port.session ≡ o → Known FitsFields f → FitsWork w → FitsWork (counts_by setup desk w o f)
  counts_by_fit w None f opened known h = h
  counts_by_fit w (Some s) None opened known h = h
  counts_by_fit w (Some s) (Some flow) opened known h = counts_flow_fit w s flow (label_for s.labels flow) opened
      (known_for s.labels flow (subst (λ (o : Option Session). Every FitsLabel (option_map_or (λ (y : Session). y.labels) o [])) opened h.port.labels)) known h

  pub counts_fit : (w : Work) (packet : List ℕ) → ((flow : FlowId) → packet_flow packet ≡ Some flow → FitsFields flow) → FitsWork w → FitsWork (counts setup desk w packet)
  counts_fit w packet fits h = counts_by_fit w w.port.session (packet_flow packet) refl (known (packet_flow packet) fits) h
    where
      known : (o : Option FlowId) → ((flow : FlowId) → o ≡ Some flow → FitsFields flow) → Known FitsFields o
      known None f = tt
      known (Some flow) f = f flow refl

  -- *A tick*
  expires_fit : (w : Work) (grant : Grant) (state : GrantState) → FitsGrant grant → FitsWork w → FitsWork (expires setup w grant state)
  expires_fit w grant Idle fits h = no_grant_fits w grant.label h
  expires_fit w grant ByController fits h = no_grant_fits w grant.label h
  expires_fit w grant (ByInput input) fits h = acts_fit (with_grant w (record grant { lifetime = 0; state = Leaving input false })) (TakeBack input (label_end setup.port grant.label)) tt
      (grant_fits w (record grant { lifetime = 0; state = Leaving input false }) fits h)
  expires_fit w grant (Leaving input owed) fits h = no_grant_fits w grant.label h

  older_fit : (w : Work) (grant : Grant) (state : GrantState) → FitsGrant grant → FitsWork w
      → FitsWork (if grant.lifetime == 1 then expires setup w grant state else with_grant w (record grant { lifetime = grant.lifetime - 1 }))
  older_fit w grant state fits h = on_both FitsWork (grant.lifetime == 1) (expires setup w grant state) (with_grant w (record grant { lifetime = grant.lifetime - 1 }))
      (expires_fit w grant state fits h) (grant_fits w (record grant { lifetime = grant.lifetime - 1 }) fits h)

  ages_in_fit : (w : Work) (grant : Grant) (state : GrantState) → FitsGrant grant → FitsWork w → FitsWork (ages_in setup w grant state)
  ages_in_fit w grant Idle fits h = older_fit w grant Idle fits h
  ages_in_fit w grant ByController fits h = older_fit w grant ByController fits h
  ages_in_fit w grant (ByInput input) fits h = older_fit w grant (ByInput input) fits h
  ages_in_fit w grant (Leaving input owed) fits h = h

  ages_found_fit : (w : Work) (o : Option Grant) → Known FitsGrant o → FitsWork w → FitsWork (ages_found setup w o)
  ages_found_fit w None known h = h
  ages_found_fit w (Some grant) known h = ages_in_fit w grant grant.state known h

  refreshes_fit : (w : Work) (x : Label) → FitsLabel x → FitsWork w → FitsWork (refreshes setup w x)
  refreshes_fit w x fits h = on_both FitsWork (nat_le setup.timers.refresh x.ticks) (says (with_label w (record x { ticks = 0 })) (redirect setup x)) (with_label w x)
      (says_fit (with_label w (record x { ticks = 0 })) (redirect setup x) (redirect_fits setup x fixed fits) (label_fits w (record x { ticks = 0 }) fits h)) (label_fits w x fits h)

  idles_fit : (w : Work) (x : Label) → FitsLabel x → FitsWork w → FitsWork (idles setup w x)
  idles_fit w x fits h = on_both FitsWork (setup.policy.keeps x.flow x.idle) (refreshes setup w (one_older x)) (recalls setup w x) (refreshes_fit w (one_older x) fits h) (recalls_fit w x fits h)

  ticks_in_fit : (w : Work) (x : Label) (state : LabelState) → FitsLabel x → FitsWork w → FitsWork (ticks_in setup desk w x state)
  ticks_in_fit w x Wiring fits h = h
  ticks_in_fit w x Offered fits h = on_both FitsWork (is_none x.join) (idles setup w (one_idler x)) (refreshes setup w (one_older x)) (idles_fit w (one_idler x) fits h) (refreshes_fit w (one_older x) fits h)
  ticks_in_fit w x (Recalled last true) fits h = h
  ticks_in_fit w x (Recalled last false) fits h = reclaims_in_fit w x w.port.session fits h
  ticks_in_fit w x Wired fits h = on_both FitsWork (on_input (desk_after desk w) (label_end setup.port x.number)) w (unwires setup desk w x.number) h (unwires_fit w x.number h)

  ticks_found_fit : (w : Work) (o : Option Label) → Known FitsLabel o → FitsWork w → FitsWork (ticks_found setup desk w o)
  ticks_found_fit w None known h = h
  ticks_found_fit w (Some x) known h = ticks_in_fit w x x.state known h

  session_ticks_fit : (w : Work) (o : Option Session) → FitsWork w → FitsWork (ticks_session setup desk w o)
  session_ticks_fit w None h = h
  session_ticks_fit w (Some s) h =
      let aged : Work = fold (ages setup) w (map grant_label w.port.grants) in
      let old : FitsWork aged = fold_fits (ages setup) (λ v l k. ages_found_fit v (at grant_label l v.port.grants) (known_grant_at v l k) k) (map grant_label w.port.grants) w h in
      let labelled : Work = fold (ticks_label setup desk) aged (map label_number (labels_of aged.port)) in
      let told : FitsWork labelled = fold_fits (ticks_label setup desk) (λ v n k. ticks_found_fit v (label_at v.port n) (known_at v n k) k) (map label_number (labels_of aged.port)) aged old in
      let nudged : FitsWork (nudges setup labelled) = on_both FitsWork (asks_for_ack labelled.port.session) (says labelled (label_range setup)) labelled (says_fit labelled (label_range setup) (range_fits setup) told) told in
      session_fits (nudges setup labelled) (λ z. record z { counted = window_moved setup.timers.window z.counted }) (λ z e l. (e, l)) nudged

  pub ticks_fit : (w : Work) → FitsWork w → FitsWork (ticks setup desk w)
  ticks_fit w h =
      let next : Work = steps setup w (ticked w.port.adjacency) in
      session_ticks_fit next next.port.session (steps_fit setup w (ticked w.port.adjacency) (ticked_fits w.port.adjacency _ h.port.own h.port.stored) h)

-- *Joins*
joins_label_fit : (w : Work) (join : Option End) (o : Option Label) → Known FitsLabel o → FitsWork w → FitsWork (joins_label w join o)
joins_label_fit w join None known h = h
joins_label_fit w join (Some x) known h = label_fits w (record x { join = join }) known h

pub joined_fit : (w : Work) (number : ℕ) (output : End) → FitsWork w → FitsWork (joined w number output)
joined_fit w number output h = joins_label_fit w (Some output) (label_at w.port number) (known_at w number h) h

pub parted_fit : (w : Work) (number : ℕ) → FitsWork w → FitsWork (parted w number)
parted_fit w number h = joins_label_fit w None (label_at w.port number) (known_at w number h) h

pub lent_fit : (w : Work) (grant : Grant) (input : End) → FitsGrant grant → FitsWork w → FitsWork (lent w grant input)
lent_fit w grant input fits h = grant_fits w (record grant { state = ByInput input }) fits h

given_back_in_fit : (w : Work) (grant : Grant) (state : GrantState) → FitsGrant grant → FitsWork w → FitsWork (given_back_in w grant state)
given_back_in_fit w grant Idle fits h = h
given_back_in_fit w grant ByController fits h = h
given_back_in_fit w grant (ByInput input) fits h = grant_fits w (record grant { state = ByController }) fits h
given_back_in_fit w grant (Leaving input true) fits h = tells_fit (without_grant w grant.label) (reclaim_ack (label_channel_of grant.label) grant.flow) (label_ack_fits grant.label grant.flow fits) (no_grant_fits w grant.label h)
given_back_in_fit w grant (Leaving input false) fits h = no_grant_fits w grant.label h

pub given_back_fit : (w : Work) (grant : Grant) → FitsGrant grant → FitsWork w → FitsWork (given_back w grant)
given_back_fit w grant fits h = given_back_in_fit w grant grant.state fits h

-- *Resets*, where the next instance fits
plain_closing : (setup : Setup) (o : Option Session) → Every FitsAction (closing setup o)
plain_closing setup None = tt
plain_closing setup (Some s) = (tt, cuts s.labels)
  where
    cuts : (labels : List Label) → Every FitsAction (map (λ (x : Label). CutChain x.number) labels)
    cuts [] = tt
    cuts (x ∷ labels) = (tt, cuts labels)

plain_withdrawing : (setup : Setup) (gs : List Grant) → Every FitsAction (withdrawing setup gs)
plain_withdrawing setup [] = tt
plain_withdrawing setup (grant ∷ gs) = every_join FitsAction (withdrawing_of setup grant) (withdrawing setup gs) (one grant.label grant.state) (plain_withdrawing setup gs)
  where
    one : (label : ℕ) (state : GrantState) → Every FitsAction (withdrawing_in setup label state)
    one label Idle = (tt, tt)
    one label ByController = (tt, tt)
    one label (ByInput input) = tt
    one label (Leaving input owed) = tt

plain_taking : (setup : Setup) (gs : List Grant) → Every FitsAction (flat_map (taking_back setup) gs)
plain_taking setup [] = tt
plain_taking setup (grant ∷ gs) = every_join FitsAction (taking_back setup grant) (flat_map (taking_back setup) gs) (one grant grant.state) (plain_taking setup gs)
  where
    one : (g : Grant) (state : GrantState) → Every FitsAction (taking_back_in setup g state)
    one g Idle = tt
    one g ByController = tt
    one g (ByInput input) = (tt, tt)
    one g (Leaving input owed) = tt

left_fit : (gs : List Grant) → Every FitsGrant gs → Every FitsGrant (flat_map left_of gs)
left_fit [] h = tt
left_fit (grant ∷ gs) h = every_join FitsGrant (left_of grant) (flat_map left_of gs) (one grant.state h.0) (left_fit gs h.1)
  where
    one : (state : GrantState) → FitsGrant grant → Every FitsGrant (left_in grant state)
    one Idle fits = tt
    one ByController fits = tt
    one (ByInput input) fits = (fits, tt)
    one (Leaving input owed) fits = (fits, tt)

pub resets_fit : (setup : Setup) (w : Work) → FitsSetup setup → w.instances + 1 < 2 ^ 32 → FitsWork w → FitsWork (resets setup w)
resets_fit setup w fixed small h = record {
  port = record { own = (small, fixed.address); stored = tt; expected = omega arith; labels = tt; grants = left_fit w.port.grants h.port.grants };
  said = every_join FitsAction w.actions _ h.said (every_join FitsAction (closing setup w.port.session) _ (plain_closing setup w.port.session)
      (every_join FitsAction (withdrawing setup w.port.grants) _ (plain_withdrawing setup w.port.grants)
      (every_join FitsAction (flat_map (taking_back setup) w.port.grants) _ (plain_taking setup w.port.grants) (tt, tt))));
}

pub restarts_fit : (setup : Setup) (w : Work) → FitsSetup setup → w.instances + 1 < 2 ^ 32 → FitsWork w → FitsWork (restarts setup w)
restarts_fit setup w fixed small h = record {
  port = record { own = (small, fixed.address); stored = tt; expected = omega arith; labels = tt; grants = tt };
  said = every_join FitsAction w.actions (closing setup w.port.session) h.said (plain_closing setup w.port.session);
}

pub cleared_fit : (port : Port) → FitsPort port → FitsPort (cleared port)
cleared_fit port h = record { own = h.own; stored = h.stored; expected = h.expected; labels = h.labels; grants = h.grants }
