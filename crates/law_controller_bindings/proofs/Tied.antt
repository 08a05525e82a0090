-- what holds of the labels, lent grants and chains of a controller also in the midst of an event, and that what is
-- sent and asked keeps it

use Rattle.std.proofs.Common.{append-nil, append_assoc, ◌≡◌, ℕ, Bool, true, false, List, [], ◌∷◌, ◌++◌, length, Option, Some, refl, sym, ◌∙◌, ap, subst, if◌then◌else◌, fold, inl, inr}
use Rattle.std.specs.Prelude.{◌==◌, nat_le}
use Rattle.std.specs.Option.{option_map_or}
use Rattle.law_controller.specs.world_model.Words.{NodeId, PortNo, Channel, End, Mark, next_control, with_control, number_of_channel, FlowId, next_hop_of, flow_destination, best, Via, is_estab, Request, MoveBranch, Record, Loss, PoolFull, Journal, noted, frame_cells, made, Standing, is_led_home, last_transaction, Setup, home_of, Label, Session, labels_of, Action, at, put, Controller, Linked, LabelChain, port_key, with_desk, default_channel, sends_control, says_gsmp, sends_request, asks_next, asks, takes_back, withdraws_input, node_resets, last_bound}
use Rattle.law_controller.specs.world_model.ipv4_forward.declared.table.Route.{Route}
use Rattle.law_controller.specs.world_model.gsmp_wire.Layout.{octets_of as gsmp_octets}
use Rattle.law_controller.specs.world_model.gsmp_wire.declared.message.Message.{Message as GsmpMessage}
use Rattle.law_controller.specs.world_model.frame_model.Sending.{Sender}
use Rattle.law_controller.specs.ordered_lists.Ordered.{Every, InOrder}
use Rattle.law_controller.proofs.ordered_lists.Every.{every_map, every_map2, every_join}
use Rattle.law_controller.specs.world_model.port_model.Desk.{asked, message_at}
use Rattle.law_controller.proofs.law_port_facts.Keyed.{on_both, at_every, put_every}
use Rattle.law_controller.specs.world_model.Controller.{Acted, free_slots, note}
use Rattle.law_controller.specs.world_model.Sending.{with_cells, sends}
use Rattle.law_controller.specs.law_controller_facts.Sound.{IsSound, IsShutLinked}
use Rattle.law_controller_bindings.specs.Bindings.{site, IsBoundLast, IsOfNode}
use Rattle.law_controller_bindings.proofs.Lasts.{none_some, SameLast, same_behind, BindNothing, Grows, stays_so, grows_then, grows_where, grows_behind, noted_grows, noted_in, cuts_in, Has}
use Rattle.law_controller_bindings.proofs.Working.{Lends, Remains}
use Rattle.law_controller_bindings.proofs.Anew.{Apart, IsHeldIn, HoldsChains, IsAt, Here, Fit, IsNew, IsAnew, node_anew, node_grows, node_stays}

-- *What a grant is lent for*: the flow that the input's label was bound to last goes on by this port, and its next hop
-- is the grant's
pub record Led (node : NodeId) (records : List Record) (table : List Route) (port : PortNo) (input : End) (flow : FlowId) : Type 0 where
  pub from : FlowId
  pub bound : last_bound records (site node input.port) (number_of_channel input.channel) ≡ Some from
  pub route : best table (flow_destination from) ≡ Some (Via port)
  pub next : next_hop_of from ≡ Some flow

-- no chain is left to cut, or these of one port are
abbrev pub NoCut : Linked → ℕ → Type 0
NoCut linked n = ⊥

abbrev pub AtPort : ℕ → List ℕ → Linked → ℕ → Type 0
AtPort p cuts linked n = (port_key linked ≡ p) × Has cuts n

pub remains_so : (labels : List Label) (Cut Later : ℕ → Type 0) (n : ℕ) → (Cut n → Later n) → Remains labels Cut n → Remains labels Later n
remains_so labels Cut Later n later r = record { label = r.label; found = r.found; live = elim r.live [ inl b ↦ inl b | inr cut ↦ inr (later cut) ] }

module _ (node : NodeId) where
  pub record Tied (records : List Record) (table : List Route) (Cut : Linked → ℕ → Type 0) (ports : List Linked) : Type 0 where
    pub apart : InOrder Apart ports
    pub flows : Every (λ (x : Linked). Every (IsBoundLast x.setup.node records x.setup.port) (labels_of x.port)) ports
    pub leads : Every (λ (x : Linked). Every (Lends (Led node records table x.setup.port)) x.port.grants) ports
    pub chains : Every (λ (x : Linked). Every (λ (chain : LabelChain). Remains (labels_of x.port) (Cut x) chain.label) x.chains) ports

  -- *The same of other records, and other cuts*
  pub led_renewed : (records now : List Record) (table : List Route) (port : PortNo) (input : End) (flow : FlowId) → last_bound now (site node input.port) (number_of_channel input.channel) ≡ last_bound records (site node input.port) (number_of_channel input.channel)
      → Led node records table port input flow → Led node now table port input flow
  led_renewed records now table port input flow same led = record { from = led.from; bound = same ∙ led.bound; route = led.route; next = led.next }

  pub renewed : (records now : List Record) (table : List Route) (Cut : Linked → ℕ → Type 0) (ports : List Linked) → SameLast records now → Tied records table Cut ports → Tied now table Cut ports
  renewed records now table Cut ports same h = record {
    apart = h.apart;
    flows = every_map (λ (x : Linked). Every (IsBoundLast x.setup.node records x.setup.port) (labels_of x.port)) (λ (x : Linked). Every (IsBoundLast x.setup.node now x.setup.port) (labels_of x.port)) ports
        (λ x all. every_map (IsBoundLast x.setup.node records x.setup.port) (IsBoundLast x.setup.node now x.setup.port) (labels_of x.port) (λ label was settled. same (site x.setup.node x.setup.port) label.number ∙ was settled) all) h.flows;
    leads = every_map (λ (x : Linked). Every (Lends (Led node records table x.setup.port)) x.port.grants) (λ (x : Linked). Every (Lends (Led node now table x.setup.port)) x.port.grants) ports
        (λ x all. every_map (Lends (Led node records table x.setup.port)) (Lends (Led node now table x.setup.port)) x.port.grants
        (λ grant was input is. led_renewed records now table x.setup.port input grant.flow (same (site node input.port) (number_of_channel input.channel)) (was input is)) all) h.leads;
    chains = h.chains;
  }

  pub recut : (records : List Record) (table : List Route) (Cut Later : Linked → ℕ → Type 0) (ports : List Linked) → ((x : Linked) (n : ℕ) → Cut x n → Later x n) → Tied records table Cut ports → Tied records table Later ports
  recut records table Cut Later ports later h = record {
    apart = h.apart;
    flows = h.flows;
    leads = h.leads;
    chains = every_map (λ (x : Linked). Every (λ (chain : LabelChain). Remains (labels_of x.port) (Cut x) chain.label) x.chains) (λ (x : Linked). Every (λ (chain : LabelChain). Remains (labels_of x.port) (Later x) chain.label) x.chains) ports
        (λ x all. every_map (λ (chain : LabelChain). Remains (labels_of x.port) (Cut x) chain.label) (λ (chain : LabelChain). Remains (labels_of x.port) (Later x) chain.label) x.chains
        (λ chain r. remains_so (labels_of x.port) (Cut x) (Later x) chain.label (later x chain.label) r) all) h.chains;
  }

  pub fit_of : (records : List Record) (table : List Route) (Cut : Linked → ℕ → Type 0) (ports : List Linked) → Tied records table Cut ports → Fit ports
  fit_of records table Cut ports h = record {
    apart = h.apart;
    held = every_map (λ (x : Linked). Every (λ (chain : LabelChain). Remains (labels_of x.port) (Cut x) chain.label) x.chains) HoldsChains ports
        (λ x all. every_map (λ (chain : LabelChain). Remains (labels_of x.port) (Cut x) chain.label) (IsHeldIn (labels_of x.port)) x.chains (λ chain r. record { label = r.label; found = r.found }) all) h.chains;
  }

  pub anew_tied : (records : List Record) (table : List Route) (Cut : Linked → ℕ → Type 0) (ports : List Linked) → IsAnew ports → Tied records table Cut ports
  anew_tied records table Cut ports new = record {
    apart = new.apart;
    flows = every_map IsNew (λ (x : Linked). Every (IsBoundLast x.setup.node records x.setup.port) (labels_of x.port)) ports (λ x is. subst (Every (IsBoundLast x.setup.node records x.setup.port)) (sym is.labels) tt) new.each;
    leads = every_map IsNew (λ (x : Linked). Every (Lends (Led node records table x.setup.port)) x.port.grants) ports (λ x is. subst (Every (Lends (Led node records table x.setup.port))) (sym is.grants) tt) new.each;
    chains = every_map IsNew (λ (x : Linked). Every (λ (chain : LabelChain). Remains (labels_of x.port) (Cut x) chain.label) x.chains) ports
        (λ x is. subst (Every (λ (chain : LabelChain). Remains (labels_of x.port) (Cut x) chain.label)) (sym is.chains) tt) new.each;
  }

-- *What leaves the ports and the table as they are*, or begins each port anew; and more may be noted of the same node
-- that binds nothing
pub data Leaves (a b : Acted) : Type 0 where
  calm : b.controller.ports ≡ a.controller.ports → b.controller.table ≡ a.controller.table → Leaves a b
  anew : IsAnew b.controller.ports → Leaves a b

pub record Goes (a b : Acted) : Type 0 where
  pub grows : Grows (Here a) a.notes.records b.notes.records
  pub leaves : Leaves a b
  pub stays : (node : NodeId) → Here a node → Here b node

pub calmly : {a b : Acted} → b.controller.node ≡ a.controller.node → b.controller.ports ≡ a.controller.ports → b.controller.table ≡ a.controller.table → Grows (Here a) a.notes.records b.notes.records → Goes a b
calmly same ports table grows = record {
  grows = grows;
  leaves = calm ports table;
  stays = λ node here. record { own = same ∙ here.own; each = subst (Every (λ (x : Linked). x.setup.node ≡ node)) (sym ports) here.each };
}

pub rests : (a : Acted) → Goes a a
rests a = calmly refl refl refl (stays_so a.notes.records)

leaves_then : (a b c : Acted) → Leaves a b → Leaves b c → Leaves a c
leaves_then a b c (calm ports table) (calm later then_table) = calm (later ∙ ports) (then_table ∙ table)
leaves_then a b c (anew new) (calm later then_table) = anew (subst IsAnew (sym later) new)
leaves_then a b c first (anew new) = anew new

pub goes_then : (a b c : Acted) → Goes a b → Goes b c → Goes a c
goes_then a b c first second = record {
  grows = grows_then a.notes.records b.notes.records c.notes.records first.grows (grows_where b.notes.records c.notes.records first.stays second.grows);
  leaves = leaves_then a b c first.leaves second.leaves;
  stays = λ node here. second.stays node (first.stays node here);
}

anew_fit : (ports : List Linked) → IsAnew ports → Fit ports
anew_fit ports new = record { apart = new.apart; held = every_map IsNew HoldsChains ports (λ x is. subst (Every (IsHeldIn (labels_of x.port))) (sym is.chains) tt) new.each }

leaves_fit : (a b : Acted) → Leaves a b → Fit a.controller.ports → Fit b.controller.ports
leaves_fit a b (calm ports table) fit = subst Fit (sym ports) fit
leaves_fit a b (anew new) fit = anew_fit b.controller.ports new

pub goes_fit : (a b : Acted) → Goes a b → Fit a.controller.ports → Fit b.controller.ports
goes_fit a b goes fit = leaves_fit a b goes.leaves fit

pub goes_fold : {A : Type 0} (f : Acted → A → Acted) → ((a : Acted) (x : A) → Fit a.controller.ports → Goes a (f a x)) → (xs : List A) (a : Acted) → Fit a.controller.ports → Goes a (fold f a xs)
goes_fold f each [] a fit = rests a
goes_fold f each (x ∷ xs) a fit = (let one : Goes a (f a x) = each a x fit in goes_then a (f a x) (fold f a (x ∷ xs)) one (goes_fold f each xs (f a x) (goes_fit a (f a x) one fit)))

-- *In an input*: behind what was told before, with what was noted since the journal stood so
module _ (node : NodeId) (earlier began : List Record) where
  leaves_tied : (a b : Acted) (records now : List Record) (Cut : Linked → ℕ → Type 0) → Leaves a b → SameLast records now → Tied node records a.controller.table Cut a.controller.ports → Tied node now b.controller.table Cut b.controller.ports
  leaves_tied a b records now Cut (calm ports table) same h = subst (λ (t : List Route). Tied node now t Cut b.controller.ports) (sym table)
      (subst (λ (ps : List Linked). Tied node now a.controller.table Cut ps) (sym ports) (renewed node records now a.controller.table Cut a.controller.ports same h))
  leaves_tied a b records now Cut (anew new) same h = anew_tied node now b.controller.table Cut b.controller.ports new

  -- what was noted since the journal stood so, of this node
  pub record IsNoted (new records : List Record) (named : NodeId) (ports : List Linked) : Type 0 where
    pub same : records ≡ began ++ new
    pub own : Every (IsOfNode node) new
    pub here : IsAt node named ports

  -- where a port is put in its place
  pub noted_put : (new records : List Record) (named : NodeId) (ports : List Linked) (k : ℕ) (linked after : Linked) → at port_key k ports ≡ Some linked → after.setup ≡ linked.setup → IsNoted new records named ports → IsNoted new records named (put port_key after ports)
  noted_put new records named ports k linked after found setup h = record {
    same = h.same;
    own = h.own;
    here = record {
      own = h.here.own;
      each = put_every port_key (λ (x : Linked). x.setup.node ≡ node) after ports (ap (λ (s : Setup). s.node) setup ∙ at_every port_key (λ (x : Linked). x.setup.node ≡ node) k ports linked h.here.each found) h.here.each;
    };
  }

  -- between what is done
  pub record Settled (a : Acted) : Type 0 where
    pub new : List Record
    pub is : IsNoted new a.notes.records a.controller.node a.controller.ports
    pub tied : Tied node (earlier ++ new) a.controller.table NoCut a.controller.ports

  -- with what a port at work has still to do
  pub record Ready (p : ℕ) (xs : List Action) (a : Acted) : Type 0 where
    pub new : List Record
    pub is : IsNoted new a.notes.records a.controller.node a.controller.ports
    pub left : Every (IsOfNode node) (noted_in xs)
    pub tied : Tied node ((earlier ++ new) ++ noted_in xs) a.controller.table (AtPort p (cuts_in xs)) a.controller.ports

  -- nothing is left to do
  pub settles : (p : ℕ) (a : Acted) → Ready p [] a → Settled a
  settles p a h = record {
    new = h.new;
    is = h.is;
    tied = renewed node ((earlier ++ h.new) ++ []) (earlier ++ h.new) a.controller.table NoCut a.controller.ports (λ end label. ap (λ (rs : List Record). last_bound rs end label) (sym (append-nil (earlier ++ h.new))))
        (recut node ((earlier ++ h.new) ++ []) a.controller.table (AtPort p []) NoCut a.controller.ports (λ x n cut. absurd (cc cut.1)) h.tied);
  }

  grown : (new : List Record) (a b : Acted) (goes : Goes a b) → IsNoted new a.notes.records a.controller.node a.controller.ports → IsNoted (new ++ goes.grows.more) b.notes.records b.controller.node b.controller.ports
  grown new a b goes is = record {
    same = goes.grows.is ∙ ap (λ (rs : List Record). rs ++ goes.grows.more) is.same ∙ append_assoc began new goes.grows.more;
    own = every_join (IsOfNode node) new goes.grows.more is.own (goes.grows.own node is.here);
    here = goes.stays node is.here;
  }

  grown_last : (new more : List Record) → BindNothing more → SameLast (earlier ++ new) (earlier ++ (new ++ more))
  grown_last new more quiet end label = ap (λ (rs : List Record). last_bound rs end label) (sym (append_assoc earlier new more)) ∙ grows_behind (earlier ++ new) more quiet end label

  pub goes_settled : (a b : Acted) → Goes a b → Settled a → Settled b
  goes_settled a b goes h = record {
    new = h.new ++ goes.grows.more;
    is = grown h.new a b goes h.is;
    tied = leaves_tied a b (earlier ++ h.new) (earlier ++ (h.new ++ goes.grows.more)) NoCut goes.leaves (grown_last h.new goes.grows.more goes.grows.quiet) h.tied;
  }

  pub goes_ready : (p : ℕ) (xs : List Action) (a b : Acted) → Goes a b → Ready p xs a → Ready p xs b
  goes_ready p xs a b goes h = record {
    new = h.new ++ goes.grows.more;
    is = grown h.new a b goes h.is;
    left = h.left;
    tied = leaves_tied a b ((earlier ++ h.new) ++ noted_in xs) ((earlier ++ (h.new ++ goes.grows.more)) ++ noted_in xs) (AtPort p (cuts_in xs)) goes.leaves
        (same_behind (earlier ++ h.new) (earlier ++ (h.new ++ goes.grows.more)) (noted_in xs) (grown_last h.new goes.grows.more goes.grows.quiet)) h.tied;
  }

  pub settled_fit : (a : Acted) → Settled a → Fit a.controller.ports
  settled_fit a h = fit_of node (earlier ++ h.new) a.controller.table NoCut a.controller.ports h.tied

  pub ready_fit : (p : ℕ) (xs : List Action) (a : Acted) → Ready p xs a → Fit a.controller.ports
  ready_fit p xs a h = fit_of node ((earlier ++ h.new) ++ noted_in xs) a.controller.table (AtPort p (cuts_in xs)) a.controller.ports h.tied

-- *The notes, and what is sent*
pub note_goes : (a : Acted) (item : Record) → BindNothing (item ∷ []) → ((node : NodeId) → a.controller.node ≡ node → IsOfNode node item) → Goes a (note a item)
note_goes a item nothing own = calmly refl refl refl (noted_grows a.notes item nothing (λ node here. own node here.own))

pub notes_goes : (a : Acted) (notes : Journal) → Grows (Here a) a.notes.records notes.records → Goes a (record a { notes = notes })
notes_goes a notes grows = calmly refl refl refl grows

pub sends_goes : (a : Acted) (channel : Channel) (mark : Mark) (payload : List ℕ) → Goes a (sends a channel mark payload)
sends_goes a channel mark payload = on_both (λ (s : Sender Controller). Goes a (record a { controller = s.queues; notes = s.notes })) (nat_le (length (frame_cells channel mark payload)) (free_slots a.controller))
    (record { queues = with_cells a.controller (frame_cells channel mark payload); notes = made a.notes mark payload })
    (record { queues = a.controller; notes = noted (made a.notes mark payload) (Loss mark PoolFull) })
    (calmly refl refl refl (stays_so a.notes.records)) (calmly refl refl refl (noted_grows (made a.notes mark payload) (Loss mark PoolFull) (λ end label. refl) (λ node here. tt)))

pub sends_control_goes : (a : Acted) (channel : Channel) (payload : List ℕ) → Goes a (sends_control a channel payload)
sends_control_goes a channel payload = (let b : Acted = record a { numbers = with_control a.numbers } in
    goes_then a b (sends_control a channel payload) (calmly refl refl refl (stays_so a.notes.records)) (sends_goes b channel (next_control a.numbers) payload))

pub says_gsmp_goes : (a : Acted) (message : GsmpMessage) → Goes a (says_gsmp a message)
says_gsmp_goes a message = sends_control_goes a default_channel (gsmp_octets message)

pub sends_request_goes : (a : Acted) (s : Standing) → Goes a (sends_request a s)
sends_request_goes a s = says_gsmp_goes a (message_at a.controller.desk s)

-- *A node reset*
pub node_goes : (a : Acted) → Fit a.controller.ports → Goes a (node_resets a)
node_goes a fit = record { grows = node_grows a fit; leaves = anew (node_anew a fit); stays = node_stays a fit }

-- *Asking*
pub asks_goes : (a : Acted) (request : Request) → Fit a.controller.ports → Goes a (asks a request)
asks_goes a request fit = on_both (Goes a) (is_estab a.controller.adjacency.state) (if a.controller.desk.next == last_transaction then node_resets a else asks_next a request) a
    (on_both (Goes a) (a.controller.desk.next == last_transaction) (node_resets a) (asks_next a request) (node_goes a fit)
    (let b : Acted = with_desk a (asked a.controller.desk request) in
    goes_then a b (asks_next a request) (calmly refl refl refl (stays_so a.notes.records)) (sends_request_goes b (record { number = a.controller.desk.next; request = request }))))
    (rests a)

pub takes_back_goes : (a : Acted) (input output : End) → Fit a.controller.ports → Goes a (takes_back a input output)
takes_back_goes a input output fit = on_both (Goes a) (is_led_home a.controller.desk input (home_of input)) a (asks a (MoveBranch input output (home_of input))) (rests a) (asks_goes a (MoveBranch input output (home_of input)) fit)

pub withdraws_goes : (a : Acted) (input : End) → Goes a (withdraws_input a input)
withdraws_goes a input = calmly refl refl refl (stays_so a.notes.records)

-- *Outside Estab* with the switch each port is as one that begins anew
pub closed_anew : (setups : List Setup) (a : Acted) → IsSound setups a.controller → is_estab a.controller.adjacency.state ≡ false → Fit a.controller.ports → IsAnew a.controller.ports
closed_anew setups a s closed fit = record {
  apart = fit.apart;
  each = every_map2 IsShutLinked HoldsChains IsNew a.controller.ports (λ x shut held. is_new x (ap (λ (o : Option Session). option_map_or (λ (s : Session). s.labels) o []) shut.session) shut.grants held) (s.unmet (unmet a.controller.has_met refl)) fit.held;
}
  where
    both_ways : (b : Bool) → b ≡ true → b ≡ false → ⊥
    both_ways b t f = absurd (cc (sym t ∙ f))

    unmet : (b : Bool) → a.controller.has_met ≡ b → a.controller.has_met ≡ false
    unmet true e = absurd (both_ways (is_estab a.controller.adjacency.state) (s.desk.met e) closed)
    unmet false e = e

    no_chains : (chains : List LabelChain) → Every (IsHeldIn []) chains → chains ≡ []
    no_chains [] all = refl
    no_chains (chain ∷ chains) all = absurd (none_some all.0.label all.0.found)

    is_new : (x : Linked) → labels_of x.port ≡ [] → x.port.grants ≡ [] → HoldsChains x → IsNew x
    is_new x labels grants held = record { labels = labels; grants = grants; chains = no_chains x.chains (subst (λ (ls : List Label). Every (IsHeldIn ls) x.chains) labels held) }
