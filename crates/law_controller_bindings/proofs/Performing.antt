-- what a port at work has asked, done one by one, keeps labels bound, joins led and chains of bound labels; and so does
-- a rule of a port, a reset, and whatever is done at the two ports of a join

use Rattle.std.proofs.Common.{◌≡◌, ◌≢◌, ℕ, Bool, true, false, List, [], ◌∷◌, ◌++◌, Option, None, Some, refl, sym, ◌∙◌, ap, subst, arith, if◌then◌else◌, map, fold, inl, inr, append_assoc}
use Rattle.std.specs.Prelude.{◌⊎◌, ◌||◌, nat_eq, flat_map}
use Rattle.std.specs.Option.{option_map_or, option_and_then}
use Rattle.std.proofs.lemmas.Bool.Decides.{nat_tests}
use Rattle.law_controller.specs.world_model.Words.{NodeId, PortNo, End, number_of_channel, FlowId, default_payload, ifmp_packet_of, is_estab, Record, cut, at, put, without, Action, Say, Ask, Note, CutChain, TakeBack, Withdraw, Setup, Label, Grant, GrantState, Idle, ByController, ByInput, Leaving, grant_label, Session, Work, labels_of, closing, left_in, left_of, withdrawing_in, withdrawing_of, withdrawing, taking_back_in, taking_back, resets, Linked, LabelChain, port_key, chain_key, linked_at, chain_of, default_home, cuts_of, closes_by, begins, with_work, does, does_in_estab, resets_as, resets_of, resets_port, performs, performs_in_estab, Rule, works_as, works, at_port, is_clearing, last_bound}
use Rattle.law_controller.specs.world_model.ifmp_wire.Message.{octets_of as ifmp_octets}
use Rattle.law_controller.specs.world_model.ipv4_forward.declared.table.Route.{Route}
use Rattle.law_controller.specs.world_model.gsmp_wire.declared.request.Request.TheVariants.{DeleteAll}
use Rattle.law_controller.specs.ordered_lists.Ordered.{Every}
use Rattle.law_controller.proofs.ordered_lists.Every.{every_all, every_map, every_map2, every_join, every_right}
use Rattle.law_controller.specs.world_model.port_model.declared.action.Action.TheVariants as actions
use Rattle.law_controller.specs.world_model.port_model.Grants.{lent_input}
use Rattle.law_controller.specs.law_port_facts.Port.{IsPort, IsAction, AnyChannel}
use Rattle.law_controller.proofs.law_port_facts.Keyed.{on_both, on_each, by_eq, at_key, at_every, at_put_same, put_every, put_order, each_found}
use Rattle.law_controller.proofs.law_port_facts.Steps.{GoesOn}
use Rattle.law_controller.specs.world_model.Controller.{Acted, note}
use Rattle.law_controller.specs.law_controller_facts.Sound.{IsSound}
use Rattle.law_controller.proofs.law_controller_facts.Moves.{Worked, worked_kept, by_rule, Found, placing, moves_to, HasPorts, found_setup, found_at_own, begun}
use Rattle.law_controller.proofs.law_controller_facts.Joining.{every_flat_map, each_there}
use Rattle.law_controller.proofs.law_controller_facts.Laws.{has_ports, moves_sound}
use Rattle.law_controller.proofs.law_controller_facts.Each.{performs_keeps}
use Rattle.law_controller.proofs.law_controller_facts.Unmet.{put_each, none_with}
use Rattle.law_controller.specs.Match.{joined_in, lent_in, lent_at, end_at}
use Rattle.law_controller.proofs.Pairing.{same_pairs}
use Rattle.law_controller.proofs.Matching.{any_goes}
use Rattle.law_controller.proofs.Whole.{Whole}
use Rattle.law_controller_bindings.specs.Bindings.{site, IsBoundLast, IsOfNode}
use Rattle.law_controller_bindings.proofs.Lasts.{some_same, quiet_more, grows_where, cut_grows, notes_by, noted_in, cuts_in, Has}
use Rattle.law_controller_bindings.proofs.Working.{Lends, Remains, Body, IsMild, goes_body}
use Rattle.law_controller_bindings.proofs.Anew.{HoldsChains, Here, Fit, IsClosed, closes_chains, held_cut, all_cut, put_put, without_each}
use Rattle.law_controller_bindings.proofs.Tied.{Led, Tied, noted_put, Settled, Ready, NoCut, AtPort, led_renewed, settles, Goes, calmly, rests, goes_then, goes_fit, goes_ready, ready_fit, sends_control_goes, asks_goes, takes_back_goes, withdraws_goes, closed_anew, anew_tied, remains_so}

fold_more : {A B : Type 0} (f : B → A → B) (b : B) (xs ys : List A) → fold f b (xs ++ ys) ≡ fold f (fold f b xs) ys
fold_more f b [] ys = refl
fold_more f b (x ∷ xs) ys = fold_more f (f b x) xs ys

behind : (b : Bool) {c : Bool} → b ≡ false → (b || c) ≡ true → c ≡ true
behind true e f = absurd (cc e)
behind false e f = f

-- *What a reset asks* behind what ends with the session
abbrev IsAsking : Action → Type 0
IsAsking (Ask request needed) = Unit {0}
IsAsking (TakeBack input output) = Unit {0}
IsAsking (Withdraw input) = Unit {0}
IsAsking action = ⊥

withdrawing_asks : (setup : Setup) (gs : List Grant) → Every IsAsking (withdrawing setup gs)
withdrawing_asks setup [] = tt
withdrawing_asks setup (grant ∷ gs) = every_join IsAsking (withdrawing_of setup grant) (withdrawing setup gs) (by_state grant.state) (withdrawing_asks setup gs)
  where
    by_state : (state : GrantState) → Every IsAsking (withdrawing_in setup grant.label state)
    by_state Idle = (tt, tt)
    by_state ByController = (tt, tt)
    by_state (ByInput input) = tt
    by_state (Leaving input owed) = tt

taking_asks : (setup : Setup) (gs : List Grant) → Every IsAsking (flat_map (taking_back setup) gs)
taking_asks setup [] = tt
taking_asks setup (grant ∷ gs) = every_join IsAsking (taking_back setup grant) (flat_map (taking_back setup) gs) (by_state grant.state) (taking_asks setup gs)
  where
    by_state : (state : GrantState) → Every IsAsking (taking_back_in setup grant state)
    by_state Idle = tt
    by_state ByController = tt
    by_state (ByInput input) = (tt, tt)
    by_state (Leaving input owed) = tt

asks_one : (q : PortNo) (a : Acted) (x : Action) → IsAsking x → Fit a.controller.ports → Goes a (does_in_estab q a x)
asks_one q a (Say message) is fit = absurd is
asks_one q a (Ask request needed) is fit = on_both (Goes a) (is_estab a.controller.adjacency.state) (does q a (Ask request needed)) a (asks_goes a request fit) (rests a)
asks_one q a (Note item) is fit = absurd is
asks_one q a (CutChain label) is fit = absurd is
asks_one q a (TakeBack input output) is fit = on_both (Goes a) (is_estab a.controller.adjacency.state) (does q a (TakeBack input output)) a (takes_back_goes a input output fit) (rests a)
asks_one q a (Withdraw input) is fit = on_both (Goes a) (is_estab a.controller.adjacency.state) (does q a (Withdraw input)) a (withdraws_goes a input) (rests a)
asks_one q a actions.Reset is fit = absurd is

asking_goes : (q : PortNo) (xs : List Action) (a : Acted) → Every IsAsking xs → Fit a.controller.ports → Goes a (fold (does_in_estab q) a xs)
asking_goes q [] a all fit = rests a
asking_goes q (x ∷ xs) a all fit = (let one : Goes a (does_in_estab q a x) = asks_one q a x all.0 fit in
    goes_then a (does_in_estab q a x) (fold (does_in_estab q) a (x ∷ xs)) one (asking_goes q xs (does_in_estab q a x) all.1 (goes_fit a (does_in_estab q a x) one fit)))

-- *What ends with the session* in Estab is done as in a restart
abbrev IsEnding : Action → Type 0
IsEnding (Note item) = Unit {0}
IsEnding (CutChain label) = Unit {0}
IsEnding action = ⊥

closing_ends : (setup : Setup) (o : Option Session) → Every IsEnding (closing setup o)
closing_ends setup None = tt
closing_ends setup (Some s) = (tt, cuts s.labels)
  where
    cuts : (labels : List Label) → Every IsEnding (map (λ (label : Label). CutChain label.number) labels)
    cuts [] = tt
    cuts (label ∷ labels) = (tt, cuts labels)

cuts_estab : (a : Acted) (label : ℕ) (o : Option Linked) → (cuts_of a label o).controller.adjacency ≡ a.controller.adjacency
cuts_estab a label None = refl
cuts_estab a label (Some linked) = refl

ends_estab : (q : PortNo) (a : Acted) (x : Action) → IsEnding x → (closes_by q a x).controller.adjacency ≡ a.controller.adjacency
ends_estab q a (Say message) is = absurd is
ends_estab q a (Ask request needed) is = absurd is
ends_estab q a (Note item) is = refl
ends_estab q a (CutChain label) is = cuts_estab a label (linked_at a.controller q)
ends_estab q a (TakeBack input output) is = absurd is
ends_estab q a (Withdraw input) is = absurd is
ends_estab q a actions.Reset is = absurd is

ends_alike : (q : PortNo) (a : Acted) (x : Action) → IsEnding x → does q a x ≡ closes_by q a x
ends_alike q a (Say message) is = absurd is
ends_alike q a (Ask request needed) is = absurd is
ends_alike q a (Note item) is = refl
ends_alike q a (CutChain label) is = refl
ends_alike q a (TakeBack input output) is = absurd is
ends_alike q a (Withdraw input) is = absurd is
ends_alike q a actions.Reset is = absurd is

ends_all : (q : PortNo) (xs : List Action) (a : Acted) → Every IsEnding xs → is_estab a.controller.adjacency.state ≡ true → fold (does_in_estab q) a xs ≡ fold (closes_by q) a xs
ends_all q [] a all estab = refl
ends_all q (x ∷ xs) a all estab = ap (λ (b : Bool). fold (does_in_estab q) (if b then does q a x else a) xs) estab ∙ ap (λ (b : Acted). fold (does_in_estab q) b xs) (ends_alike q a x all.0)
    ∙ ends_all q xs (closes_by q a x) all.1 (ap (λ side. is_estab side.state) (ends_estab q a x all.0) ∙ estab)

-- *A port that is found*, and one put in its place
module _ (node : NodeId) where
  -- each of its parts fits
  pub record IsTied (records : List Record) (table : List Route) (Cut : Linked → ℕ → Type 0) (x : Linked) : Type 0 where
    pub flows : Every (IsBoundLast x.setup.node records x.setup.port) (labels_of x.port)
    pub leads : Every (Lends (Led node records table x.setup.port)) x.port.grants
    pub chains : Every (λ (chain : LabelChain). Remains (labels_of x.port) (Cut x) chain.label) x.chains

  pub tied_at : (records : List Record) (table : List Route) (Cut : Linked → ℕ → Type 0) (ports : List Linked) (k : ℕ) (linked : Linked) → at port_key k ports ≡ Some linked → Tied node records table Cut ports → IsTied records table Cut linked
  tied_at records table Cut ports k linked found h = record {
    flows = at_every port_key (λ (x : Linked). Every (IsBoundLast x.setup.node records x.setup.port) (labels_of x.port)) k ports linked h.flows found;
    leads = at_every port_key (λ (x : Linked). Every (Lends (Led node records table x.setup.port)) x.port.grants) k ports linked h.leads found;
    chains = at_every port_key (λ (x : Linked). Every (λ (chain : LabelChain). Remains (labels_of x.port) (Cut x) chain.label) x.chains) k ports linked h.chains found;
  }

  -- with the same cuts elsewhere
  pub put_tied : (records : List Record) (table : List Route) (Cut Later : Linked → ℕ → Type 0) (after : Linked) (ports : List Linked) → IsTied records table Later after → ((x : Linked) → port_key x ≢ port_key after → (n : ℕ) → Cut x n → Later x n)
      → Tied node records table Cut ports → Tied node records table Later (put port_key after ports)
  put_tied records table Cut Later after ports is later h = record {
    apart = put_order port_key (λ m n. m ≢ n) after ports h.apart;
    flows = put_every port_key (λ (x : Linked). Every (IsBoundLast x.setup.node records x.setup.port) (labels_of x.port)) after ports is.flows h.flows;
    leads = put_every port_key (λ (x : Linked). Every (Lends (Led node records table x.setup.port)) x.port.grants) after ports is.leads h.leads;
    chains = put_each port_key (λ (x : Linked). Every (λ (chain : LabelChain). Remains (labels_of x.port) (Cut x) chain.label) x.chains) (λ (x : Linked). Every (λ (chain : LabelChain). Remains (labels_of x.port) (Later x) chain.label) x.chains) after is.chains
        (λ x other all. every_map (λ (chain : LabelChain). Remains (labels_of x.port) (Cut x) chain.label) (λ (chain : LabelChain). Remains (labels_of x.port) (Later x) chain.label) x.chains
        (λ chain r. remains_so (labels_of x.port) (Cut x) (Later x) chain.label (later x other chain.label) r) all) ports h.apart h.chains;
  }

  -- *A port reset*: what its grants were lent for stays
  left_leads : (Leads : End → FlowId → Type 0) (gs : List Grant) → Every (Lends Leads) gs → Every (Lends Leads) (flat_map left_of gs)
  left_leads Leads gs all = every_flat_map (Lends Leads) (Lends Leads) left_of (λ g was. by_state g g.state refl was) gs all
    where
      by_state : (g : Grant) (state : GrantState) → g.state ≡ state → Lends Leads g → Every (Lends Leads) (left_in g state)
      by_state g Idle is was = tt
      by_state g ByController is was = tt
      by_state g (ByInput input) is was = (λ e same. subst (λ x. Leads x g.flow) (some_same input e same) (was input (ap lent_input is)), tt)
      by_state g (Leaving input owed) is was = (λ e same. subst (λ x. Leads x g.flow) (some_same input e same) (was input (ap lent_input is)), tt)

-- *One after the other*
module _ (node : NodeId) (earlier began : List Record) where
  -- a chain is cut
  cut_ready : (q : PortNo) (a : Acted) (n : ℕ) (xs : List Action) (o : Option Linked) → linked_at a.controller q ≡ o → Ready node earlier began q.0 (CutChain n ∷ xs) a → Ready node earlier began q.0 xs (cuts_of a n o)
  cut_ready q a n xs None found h = record {
    new = h.new;
    is = h.is;
    left = h.left;
    tied = record {
      apart = h.tied.apart;
      flows = h.tied.flows;
      leads = h.tied.leads;
      chains = every_map2 (λ (x : Linked). port_key x ≢ q.0) (λ (x : Linked). Every (λ (chain : LabelChain). Remains (labels_of x.port) (AtPort q.0 (n ∷ cuts_in xs) x) chain.label) x.chains)
          (λ (x : Linked). Every (λ (chain : LabelChain). Remains (labels_of x.port) (AtPort q.0 (cuts_in xs) x) chain.label) x.chains) a.controller.ports
          (λ x other all. every_map (λ (chain : LabelChain). Remains (labels_of x.port) (AtPort q.0 (n ∷ cuts_in xs) x) chain.label) (λ (chain : LabelChain). Remains (labels_of x.port) (AtPort q.0 (cuts_in xs) x) chain.label) x.chains
          (λ chain r. remains_so (labels_of x.port) (AtPort q.0 (n ∷ cuts_in xs) x) (AtPort q.0 (cuts_in xs) x) chain.label (λ cut. absurd (other cut.0)) r) all)
          (none_with port_key q.0 a.controller.ports found) h.tied.chains;
    };
  }
  cut_ready q a n xs (Some linked) found h =
      let after : Linked = record linked { chains = without chain_key n linked.chains } in
      let key : port_key linked ≡ q.0 = at_key port_key q.0 a.controller.ports linked found in
      let noted : Acted = record a { notes = cut a.notes (chain_of linked.chains n) } in
      let k : Ready node earlier began q.0 (CutChain n ∷ xs) noted = goes_ready node earlier began q.0 (CutChain n ∷ xs) a noted (calmly refl refl refl (cut_grows a.notes (chain_of linked.chains n))) h in
      let records : List Record = (earlier ++ k.new) ++ noted_in xs in
      let is : IsTied node records a.controller.table (AtPort q.0 (n ∷ cuts_in xs)) linked = tied_at node records a.controller.table (AtPort q.0 (n ∷ cuts_in xs)) a.controller.ports q.0 linked found k.tied in
      record {
        new = k.new;
        is = noted_put node earlier began k.new noted.notes.records a.controller.node a.controller.ports q.0 linked after found refl k.is;
        left = k.left;
        tied = put_tied node records a.controller.table (AtPort q.0 (n ∷ cuts_in xs)) (AtPort q.0 (cuts_in xs)) after a.controller.ports
            (record {
              flows = is.flows;
              leads = is.leads;
              chains = without_each chain_key (λ (chain : LabelChain). Remains (labels_of linked.port) (AtPort q.0 (n ∷ cuts_in xs) linked) chain.label) (λ (chain : LabelChain). Remains (labels_of linked.port) (AtPort q.0 (cuts_in xs) after) chain.label) n linked.chains
                  (λ chain other r. remains_so (labels_of linked.port) (AtPort q.0 (n ∷ cuts_in xs) linked) (AtPort q.0 (cuts_in xs) after) chain.label
                  (λ cut. (cut.0, behind (nat_eq n chain.label) (grind (arith, nat_tests, other)) cut.1)) r) is.chains;
            })
            (λ x other m cut. absurd (other (cut.0 ∙ sym key))) k.tied;
      }

  -- a port is reset
  resets_as_ready : (xs : List Action) (a : Acted) (linked : Linked) → linked_at a.controller linked.setup.port ≡ Some linked → is_estab a.controller.adjacency.state ≡ true → Ready node earlier began (port_key linked) xs a
      → Ready node earlier began (port_key linked) xs (resets_as a linked (resets linked.setup (begins a linked)))
  resets_as_ready xs a linked found estab h =
      let q : PortNo = linked.setup.port in
      let w : Work = resets linked.setup (begins a linked) in
      let after : Linked = record linked { port = w.port } in
      let b : Acted = with_work a linked w in
      let first : List Action = closing linked.setup linked.port.session in
      let rest : List Action = withdrawing linked.setup linked.port.grants ++ (flat_map (taking_back linked.setup) linked.port.grants ++ Ask (DeleteAll q) true ∷ []) in
      let c : Acted = fold (closes_by q) b first in
      let new : Linked = record linked { port = w.port; chains = [] } in
      let reset : Acted = record a { controller = record a.controller { ports = put port_key new a.controller.ports } } in
      let closed : IsClosed linked.setup.node q after (labels_of linked.port) b c = closes_chains linked.setup linked.port.session b after (at_put_same port_key after a.controller.ports linked found) in
      let held : HoldsChains linked = at_every port_key HoldsChains (port_key linked) a.controller.ports linked (ready_fit node earlier began (port_key linked) xs a h).held found in
      let ports : c.controller.ports ≡ put port_key new a.controller.ports = closed.ports ∙ put_put port_key after (record after { chains = all_cut (labels_of linked.port) linked.chains }) a.controller.ports refl
      ∙ ap (λ (cs : List LabelChain). put port_key (record after { chains = cs }) a.controller.ports) (held_cut (labels_of linked.port) linked.chains held) in
      let records : List Record = (earlier ++ h.new) ++ noted_in xs in
      let is : IsTied node records a.controller.table (AtPort (port_key linked) (cuts_in xs)) linked = tied_at node records a.controller.table (AtPort (port_key linked) (cuts_in xs)) a.controller.ports (port_key linked) linked found h.tied in
      let placed : Ready node earlier began (port_key linked) xs reset = record {
        new = h.new;
        is = noted_put node earlier began h.new a.notes.records a.controller.node a.controller.ports (port_key linked) linked new found refl h.is;
        left = h.left;
        tied = put_tied node records a.controller.table (AtPort (port_key linked) (cuts_in xs)) (AtPort (port_key linked) (cuts_in xs)) new a.controller.ports
            (record { flows = tt; leads = left_leads node (Led node records a.controller.table linked.setup.port) linked.port.grants is.leads; chains = tt }) (λ x other n cut. cut) h.tied;
      } in
      let own : (node : NodeId) → Here reset node → linked.setup.node ≡ node = λ node here.
      at_every port_key (λ (x : Linked). x.setup.node ≡ node) (port_key linked) reset.controller.ports new here.each (at_put_same port_key new a.controller.ports linked found) in
      let now : Ready node earlier began (port_key linked) xs c = goes_ready node earlier began (port_key linked) xs reset c (calmly closed.node ports closed.table (grows_where a.notes.records c.notes.records own closed.grows)) placed in
      let last : Goes c (fold (does_in_estab q) c rest) = asking_goes q rest c
      (every_join IsAsking (withdrawing linked.setup linked.port.grants) _ (withdrawing_asks linked.setup linked.port.grants) (every_join IsAsking (flat_map (taking_back linked.setup) linked.port.grants) _ (taking_asks linked.setup linked.port.grants) (tt, tt)))
      (ready_fit node earlier began (port_key linked) xs c now) in
      subst (Ready node earlier began (port_key linked) xs) (sym (fold_more (does_in_estab q) b first rest ∙ ap (λ (v : Acted). fold (does_in_estab q) v rest) (ends_all q first b (closing_ends linked.setup linked.port.session) estab)))
      (goes_ready node earlier began (port_key linked) xs c (fold (does_in_estab q) c rest) last now)

  resets_ready : (q : PortNo) (xs : List Action) (a : Acted) → is_estab a.controller.adjacency.state ≡ true → Ready node earlier began q.0 xs a → Ready node earlier began q.0 xs (resets_port a q)
  resets_ready q xs a estab h = by_found (linked_at a.controller q) refl
    where
      by_found : (o : Option Linked) → linked_at a.controller q ≡ o → Ready node earlier began q.0 xs (resets_of a o)
      by_found None found = h
      by_found (Some linked) found =
          let key : port_key linked ≡ q.0 = at_key port_key q.0 a.controller.ports linked found in
          subst (λ p. Ready node earlier began p xs (resets_as a linked (resets linked.setup (begins a linked)))) key
          (resets_as_ready xs a linked (subst (λ k. at port_key k a.controller.ports ≡ Some linked) (sym key) found) estab (subst (λ p. Ready node earlier began p xs a) (sym key) h))

  -- a record is noted
  noted_ready : (p : ℕ) (item : Record) (xs : List Action) (a : Acted) → Ready node earlier began p (Note item ∷ xs) a → Ready node earlier began p xs (note a item)
  noted_ready p item xs a h = record {
    new = h.new ++ item ∷ [];
    is = record {
      same = ap (λ (rs : List Record). rs ++ item ∷ []) h.is.same ∙ append_assoc began h.new (item ∷ []);
      own = every_join (IsOfNode node) h.new (item ∷ []) h.is.own (h.left.0, tt);
      here = h.is.here;
    };
    left = h.left.1;
    tied = subst (λ (rs : List Record). Tied node rs a.controller.table (AtPort p (cuts_in xs)) a.controller.ports)
        (sym (ap (λ (rs : List Record). rs ++ noted_in xs) (sym (append_assoc earlier h.new (item ∷ []))) ∙ append_assoc (earlier ++ h.new) (item ∷ []) (noted_in xs))) h.tied;
  }

  pub performs_ready : (q : PortNo) (a : Acted) (x : Action) (xs : List Action) → is_estab a.controller.adjacency.state ≡ true → Ready node earlier began q.0 (x ∷ xs) a → Ready node earlier began q.0 xs (performs q a x)
  performs_ready q a (Say message) xs estab h = goes_ready node earlier began q.0 xs a (performs q a (Say message)) (sends_control_goes a (default_home q).channel (default_payload (ifmp_packet_of a.controller.address (ifmp_octets message)))) (record { new = h.new; is = h.is; left = h.left; tied = h.tied })
  performs_ready q a (Ask request needed) xs estab h = goes_ready node earlier began q.0 xs a (performs q a (Ask request needed)) (asks_goes a request (ready_fit node earlier began q.0 xs a (record { new = h.new; is = h.is; left = h.left; tied = h.tied }))) (record { new = h.new; is = h.is; left = h.left; tied = h.tied })
  performs_ready q a (Note item) xs estab h = noted_ready q.0 item xs a h
  performs_ready q a (CutChain label) xs estab h = cut_ready q a label xs (linked_at a.controller q) refl h
  performs_ready q a (TakeBack input output) xs estab h = goes_ready node earlier began q.0 xs a (performs q a (TakeBack input output)) (takes_back_goes a input output (ready_fit node earlier began q.0 xs a (record { new = h.new; is = h.is; left = h.left; tied = h.tied }))) (record { new = h.new; is = h.is; left = h.left; tied = h.tied })
  performs_ready q a (Withdraw input) xs estab h = goes_ready node earlier began q.0 xs a (performs q a (Withdraw input)) (withdraws_goes a input) (record { new = h.new; is = h.is; left = h.left; tied = h.tied })
  performs_ready q a actions.Reset xs estab h = resets_ready q xs a estab (record { new = h.new; is = h.is; left = h.left; tied = h.tied })

  pub performs_mild : (q : PortNo) (xs : List Action) (a : Acted) → Every IsMild xs → Ready node earlier began q.0 xs a → Settled node earlier began (fold (performs_in_estab q) a xs)
  performs_mild q [] a all h = settles node earlier began q.0 a h
  performs_mild q (x ∷ xs) a all h = performs_mild q xs (performs_in_estab q a x) all.1
      (on_each (Ready node earlier began q.0 xs) (is_estab a.controller.adjacency.state) (performs q a x) a (λ estab. performs_ready q a x xs estab h) (λ closed. rest x all.0 h))
    where
      rest : (x : Action) → IsMild x → Ready node earlier began q.0 (x ∷ xs) a → Ready node earlier began q.0 xs a
      rest (Say message) is h = record { new = h.new; is = h.is; left = h.left; tied = h.tied }
      rest (Ask request needed) is h = absurd is
      rest (Note item) is h = absurd is
      rest (CutChain label) is h = absurd is
      rest (TakeBack input output) is h = absurd is
      rest (Withdraw input) is h = absurd is
      rest actions.Reset is h = record { new = h.new; is = h.is; left = h.left; tied = h.tied }

  pub performs_each : (setups : List Setup) (q : PortNo) (xs : List Action) (a : Acted) → Every (IsAction setups) xs → IsSound setups a.controller → Ready node earlier began q.0 xs a → Settled node earlier began (fold (performs_in_estab q) a xs)
  performs_each setups q [] a all s h = settles node earlier began q.0 a h
  performs_each setups q (x ∷ xs) a all s h = performs_each setups q xs (performs_in_estab q a x) all.1 (performs_keeps setups a s q x all.0).sound
      (on_each (Ready node earlier began q.0 xs) (is_estab a.controller.adjacency.state) (performs q a x) a (λ estab. performs_ready q a x xs estab h)
      (λ closed. record { new = h.new; is = h.is; left = every_right (IsOfNode node) (notes_by x) (noted_in xs) h.left; tied = anew_tied node ((earlier ++ h.new) ++ noted_in xs) a.controller.table (AtPort q.0 (cuts_in xs)) a.controller.ports (closed_anew setups a s closed (ready_fit node earlier began q.0 (x ∷ xs) a h)) }))

-- *A port at work is put back*
module _ (node : NodeId) (records : List Record) (a : Acted) (linked : Linked) (Joined : ℕ → Type 0) where
  -- an input at this port is one of these
  abbrev pub IsOther : End → Type 0
  IsOther input = input.port.0 ≡ port_key linked → Joined (number_of_channel input.channel)

  abbrev pub Lent : End → FlowId → Type 0
  Lent input flow = Led node records a.controller.table linked.setup.port input flow × IsOther input

  abbrev pub IsBody : Work → Type 0
  IsBody = Body linked.setup records Lent linked.chains Joined

  abbrev pub AreOther : Grant → Type 0
  AreOther grant = (input : End) → lent_input grant.state ≡ Some input → IsOther input

  abbrev pub IsLentOther : Linked → Type 0
  IsLentOther x = Every AreOther x.port.grants

  abbrev Held : Type 0
  Held = Tied node records a.controller.table NoCut a.controller.ports

  pub begins_body : linked_at a.controller linked.setup.port ≡ Some linked → Every IsLentOther a.controller.ports → Held → IsBody (begins a linked)
  begins_body found others h =
      let is : IsTied node records a.controller.table NoCut linked = tied_at node records a.controller.table NoCut a.controller.ports (port_key linked) linked found h in
      record {
        flows = every_map (IsBoundLast linked.setup.node records linked.setup.port) (IsBoundLast linked.setup.node (records ++ []) linked.setup.port) (labels_of linked.port)
            (λ label was settled. quiet_more (site linked.setup.node linked.setup.port) label.number records [] refl ∙ was settled) is.flows;
        leads = every_map2 (Lends (Led node records a.controller.table linked.setup.port)) AreOther (Lends Lent) linked.port.grants
            (λ g was other input e. (was input e, other input e)) is.leads (at_every port_key IsLentOther (port_key linked) a.controller.ports linked others found);
        chains = every_map (λ (chain : LabelChain). Remains (labels_of linked.port) (NoCut linked) chain.label) (λ (chain : LabelChain). Remains (labels_of linked.port) (Has []) chain.label) linked.chains
            (λ chain r. remains_so (labels_of linked.port) (NoCut linked) (Has []) chain.label (λ cut. absurd cut) r) is.chains;
        same = λ end n apart. quiet_more end n records [] refl;
        own = tt;
      }

  pub placed_tied : (w : Work) → linked_at a.controller linked.setup.port ≡ Some linked → Every IsLentOther a.controller.ports → IsBody w → Held
      → Tied node (records ++ noted_in w.actions) a.controller.table (AtPort (port_key linked) (cuts_in w.actions)) (put port_key (record linked { port = w.port }) a.controller.ports)
  placed_tied w found others body h =
      let later : List Record = records ++ noted_in w.actions in
      let table : List Route = a.controller.table in
      let after : Linked = record linked { port = w.port } in
      record {
        apart = put_order port_key (λ m n. m ≢ n) after a.controller.ports h.apart;
        flows = put_each port_key (λ (x : Linked). Every (IsBoundLast x.setup.node records x.setup.port) (labels_of x.port)) (λ (x : Linked). Every (IsBoundLast x.setup.node later x.setup.port) (labels_of x.port)) after body.flows
            (λ x other all. every_map (IsBoundLast x.setup.node records x.setup.port) (IsBoundLast x.setup.node later x.setup.port) (labels_of x.port)
            (λ label was settled. body.same (site x.setup.node x.setup.port) label.number (inl other) ∙ was settled) all) a.controller.ports h.apart h.flows;
        leads = put_every port_key (λ (x : Linked). Every (Lends (Led node later table x.setup.port)) x.port.grants) after a.controller.ports
            (every_map (Lends Lent) (Lends (Led node later table linked.setup.port)) w.port.grants
            (λ g was input e. (let both : Lent input g.flow = was input e in led_renewed node records later table linked.setup.port input g.flow (renews input both.1) both.0)) body.leads)
            (every_map2 (λ (x : Linked). Every (Lends (Led node records table x.setup.port)) x.port.grants) IsLentOther (λ (x : Linked). Every (Lends (Led node later table x.setup.port)) x.port.grants) a.controller.ports
            (λ x leads lent. every_map2 (Lends (Led node records table x.setup.port)) AreOther (Lends (Led node later table x.setup.port)) x.port.grants
            (λ g was other input e. led_renewed node records later table x.setup.port input g.flow (renews input (other input e)) (was input e)) leads lent) h.leads others);
        chains = put_each port_key (λ (x : Linked). Every (λ (chain : LabelChain). Remains (labels_of x.port) (NoCut x) chain.label) x.chains) (λ (x : Linked). Every (λ (chain : LabelChain). Remains (labels_of x.port) (AtPort (port_key linked) (cuts_in w.actions) x) chain.label) x.chains) after
            (every_map (λ (chain : LabelChain). Remains (labels_of w.port) (Has (cuts_in w.actions)) chain.label) (λ (chain : LabelChain). Remains (labels_of w.port) (AtPort (port_key linked) (cuts_in w.actions) after) chain.label) linked.chains
            (λ chain r. remains_so (labels_of w.port) (Has (cuts_in w.actions)) (AtPort (port_key linked) (cuts_in w.actions) after) chain.label (λ cut. (refl, cut)) r) body.chains)
            (λ x other all. every_map (λ (chain : LabelChain). Remains (labels_of x.port) (NoCut x) chain.label) (λ (chain : LabelChain). Remains (labels_of x.port) (AtPort (port_key linked) (cuts_in w.actions) x) chain.label) x.chains
            (λ chain r. remains_so (labels_of x.port) (NoCut x) (AtPort (port_key linked) (cuts_in w.actions) x) chain.label (λ cut. absurd cut) r) all) a.controller.ports h.apart h.chains;
      }
    where
      renews : (input : End) → IsOther input → last_bound (records ++ noted_in w.actions) (site node input.port) (number_of_channel input.channel) ≡ last_bound records (site node input.port) (number_of_channel input.channel)
      renews input other = by_eq input.port.0 (port_key linked) (λ same t. body.same (site node input.port) (number_of_channel input.channel) (inr (other same))) (λ differs t. body.same (site node input.port) (number_of_channel input.channel) (inl differs))

-- *A rule that notes no binding*
abbrev pub Any : ℕ → Type 0
Any n = Unit {0}

any_other : (node : NodeId) (records : List Record) (a : Acted) (linked : Linked) → Every (IsLentOther node records a linked Any) a.controller.ports
any_other node records a linked = every_all (IsLentOther node records a linked Any) a.controller.ports (λ x. every_all (AreOther node records a linked Any) x.port.grants (λ g input e same. tt))

module _ (node : NodeId) (earlier began : List Record) where
  abbrev Bound : Acted → Type 0
  Bound = Settled node earlier began

  -- what it makes of the port at work, whatever was told so far
  abbrev pub Keeps : Acted → Linked → Work → Type 0
  Keeps a linked w = (records : List Record) → IsBody node records a linked Any (begins a linked) → IsBody node records a linked Any w

  placed_ready : (a : Acted) (linked : Linked) (Joined : ℕ → Type 0) (w : Work) (h : Bound a) → linked_at a.controller linked.setup.port ≡ Some linked → Every (IsLentOther node (earlier ++ h.new) a linked Joined) a.controller.ports → IsBody node (earlier ++ h.new) a linked Joined w
      → Ready node earlier began (port_key linked) w.actions (with_work a linked w)
  placed_ready a linked Joined w h found others body = record {
    new = h.new;
    is = noted_put node earlier began h.new a.notes.records a.controller.node a.controller.ports (port_key linked) linked (record linked { port = w.port }) found refl h.is;
    left = subst (λ (m : NodeId). Every (IsOfNode m) (noted_in w.actions)) (at_every port_key (λ (x : Linked). x.setup.node ≡ node) (port_key linked) a.controller.ports linked h.is.here.each found) body.own;
    tied = placed_tied node (earlier ++ h.new) a linked Joined w found others body h.tied;
  }

  pub at_port_mild : (a : Acted) (port : PortNo) (rule : Rule) (h : Bound a)
      → ((linked : Linked) → linked_at a.controller port ≡ Some linked → IsBody node (earlier ++ h.new) a linked Any (begins a linked) → IsBody node (earlier ++ h.new) a linked Any (rule linked.setup a.controller.desk (begins a linked)))
      → ((linked : Linked) → Every IsMild (rule linked.setup a.controller.desk (begins a linked)).actions) → Bound (at_port a port rule)
  at_port_mild a port rule h body mild = by_found (linked_at a.controller port) refl
    where
      by_found : (o : Option Linked) → linked_at a.controller port ≡ o → Bound (works a rule o)
      by_found None found = h
      by_found (Some linked) found =
          let own : linked_at a.controller linked.setup.port ≡ Some linked = subst (λ k. at port_key k a.controller.ports ≡ Some linked) (sym (at_key port_key port.0 a.controller.ports linked found)) found in
          let w : Work = rule linked.setup a.controller.desk (begins a linked) in
          let others : Every (IsLentOther node (earlier ++ h.new) a linked Any) a.controller.ports = any_other node (earlier ++ h.new) a linked in
          performs_mild node earlier began linked.setup.port w.actions (with_work a linked w) (mild linked)
          (placed_ready a linked Any w h own others (body linked found (begins_body node (earlier ++ h.new) a linked Any own others h.tied)))

  -- a rule of a port, whatever it asks
  pub works_body : (setups : List Setup) (a : Acted) → IsSound setups a.controller → (linked : Linked) → Found setups a linked → (w : Work) → Worked setups linked.setup a.controller.desk (begins a linked) w → Keeps a linked w → Bound a → Bound (works_as a linked w)
  works_body setups a s linked found w worked body h =
      let has : HasPorts setups a = has_ports setups a s in
      let others : Every (IsLentOther node (earlier ++ h.new) a linked Any) a.controller.ports = any_other node (earlier ++ h.new) a linked in
      performs_each node earlier began setups linked.setup.port w.actions (with_work a linked w)
      (worked_kept setups linked.setup a.controller.desk (found_setup setups a linked linked.setup.port has found) (begins a linked) w worked (begun setups a linked linked.setup.port has found)).actions
      (moves_sound setups a (with_work a linked w) (moves_to (placing a linked w found worked)) s)
      (placed_ready a linked Any w h found others (body (earlier ++ h.new) (begins_body node (earlier ++ h.new) a linked Any found others h.tied)))

  -- *A rule of a port* that frees no label: no label that it binds is joined
  module _ (setups : List Setup) (a : Acted) (h : Whole setups a) (linked : Linked) (found : Found setups a linked) where
    abbrev Joins : ℕ → Type 0
    Joins n = (is_clearing linked.port.adjacency.state ≡ true) ⊎ ((output : End) × (joined_in (labels_of linked.port) n ≡ Some output))

    lent_others : (records : List Record) → Every (IsLentOther node records a linked Joins) a.controller.ports
    lent_others records = every_map (λ (x : Linked). Found setups a x × IsPort setups x.setup x.port) (IsLentOther node records a linked Joins) a.controller.ports (λ x p. by_grants x p.0 (each_found grant_label x.port.grants p.1.apart)) (each_there setups a (has_ports setups a h.sound))
      where
        is_joined : (q m : ℕ) (input : End) → lent_at a.controller.ports q m ≡ Some input → input.port.0 ≡ port_key linked → Joins (number_of_channel input.channel)
        is_joined q m input lent same = elim (h.fits.joined q m input lent) [
          | inl clearing ↦ inl (sym (ap (λ (o : Option Linked). option_map_or (λ (x : Linked). is_clearing x.port.adjacency.state) o false) (here)) ∙ clearing)
          | inr joined ↦ inr (end_at q m, sym (ap (option_and_then (λ (x : Linked). joined_in (labels_of x.port) (number_of_channel input.channel))) here) ∙ joined)
        ]
          where
            here : at port_key input.port.0 a.controller.ports ≡ Some linked
            here = subst (λ k. at port_key k a.controller.ports ≡ Some linked) (sym same) found

        by_grants : (x : Linked) → Found setups a x → Every (λ (g : Grant). at grant_label (grant_label g) x.port.grants ≡ Some g) x.port.grants → IsLentOther node records a linked Joins x
        by_grants x there all = every_map (λ (g : Grant). at grant_label (grant_label g) x.port.grants ≡ Some g) (AreOther node records a linked Joins) x.port.grants
            (λ g granted input e same. is_joined (port_key x) g.label input
            (ap (option_and_then (λ (y : Linked). lent_in y.port.grants g.label)) there ∙ ap (option_and_then (λ (y : Grant). lent_input y.state)) granted ∙ e) same) all

    pub works_goes : (w : Work) → GoesOn AnyChannel ⊥ linked.setup a.controller.desk (begins a linked) w → Bound a → Bound (works_as a linked w)
    works_goes w goes k =
        let has : HasPorts setups a = has_ports setups a h.sound in
        let records : List Record = earlier ++ k.new in
        let setup_found = found_setup setups a linked linked.setup.port has found in
        let worked : Worked setups linked.setup a.controller.desk (begins a linked) w = by_rule w (any_goes ⊥ linked.setup a.controller.desk (begins a linked) w goes) in
        let body : IsBody node records a linked Joins w = goes_body linked.setup records (Lent node records a linked Joins) linked.chains Joins setups setup_found a.controller.desk linked.port (λ n joins unjoined open_port. never n joins unjoined open_port)
        (begins a linked) w goes (begun setups a linked linked.setup.port has found) (same_pairs linked.port) (begins_body node records a linked Joins found (lent_others records) k.tied) in
        performs_each node earlier began setups linked.setup.port w.actions (with_work a linked w)
        (worked_kept setups linked.setup a.controller.desk setup_found (begins a linked) w worked (begun setups a linked linked.setup.port has found)).actions
        (moves_sound setups a (with_work a linked w) (moves_to (placing a linked w found worked)) h.sound)
        (placed_ready a linked Joins w k found (lent_others records) body)
      where
        never : (n : ℕ) → Joins n → joined_in (labels_of linked.port) n ≡ None → is_clearing linked.port.adjacency.state ≡ false → ⊥
        never n (inl clearing) unjoined open_port = absurd (cc (sym clearing ∙ open_port))
        never n (inr joined) unjoined open_port = absurd (cc (sym unjoined ∙ joined.1))

  pub at_port_goes : (setups : List Setup) (a : Acted) (port : PortNo) (rule : Rule)
      → ((linked : Linked) → linked_at a.controller port ≡ Some linked → GoesOn AnyChannel ⊥ linked.setup a.controller.desk (begins a linked) (rule linked.setup a.controller.desk (begins a linked)))
      → Whole setups a → Bound a → Bound (at_port a port rule)
  at_port_goes setups a port rule goes h k = by_found (linked_at a.controller port) refl
    where
      by_found : (o : Option Linked) → linked_at a.controller port ≡ o → Bound (works a rule o)
      by_found None found = k
      by_found (Some linked) found = works_goes setups a h linked (found_at_own setups a linked port found) (rule linked.setup a.controller.desk (begins a linked)) (goes linked found) k
