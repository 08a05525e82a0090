-- releases keep joins and lent grants matched, and leave nothing lent to the inputs that were released

use Rattle.std.proofs.Common.{◌≡◌, ◌≢◌, ℕ, Bool, true, false, List, [], ◌∷◌, ◌++◌, length, Option, None, Some, refl, sym, ◌∙◌, ap, subst, if◌then◌else◌, fold}
use Rattle.std.specs.Prelude.{◌||◌, nat_le, find, flat_map}
use Rattle.std.specs.List.{list_any, filter_map, cons_option}
use Rattle.std.specs.Option.{option_map, option_map_or, option_and_then}
use Rattle.law_controller_facts.specs.world_model.Words.{PortNo, Channel, End, next_control, number_of_channel, label_channel_of, is_estab, ifmp_packet_of, default_payload, Loss, Part, PoolFull, noted, frame_cells, made, same_end, at, put, without, entered, in_order, Desk, on_input, Action, Say, Ask, Note, CutChain, TakeBack, Withdraw, Setup, Label, label_number, Grant, GrantState, Idle, ByController, ByInput, Leaving, grant_label, Session, Work, without_grant, label_at, labels_of, reclaim_ack, joins_label, parted, given_back_in, given_back, Controller, Linked, port_key, linked_at, default_home, begins, with_work, Rule, performs, performs_in_estab, works, works_as, join_to, joins_at, end_le, joins_of, join_of, parts, releases_join, releases_input, is_clearing}
use Rattle.law_controller_facts.proofs.world_model.net_types.Labels.{label_channel_of-number_of_channel}
use Rattle.law_controller_facts.specs.world_model.ifmp_wire.Message.{octets_of as ifmp_octets}
use Rattle.law_controller_facts.specs.world_model.frame_model.Sending.{Sender}
use Rattle.law_controller_facts.specs.ordered_lists.Ordered.{Every}
use Rattle.law_controller_facts.specs.world_model.port_model.declared.action.Action.TheVariants as actions
use Rattle.law_controller_facts.specs.world_model.port_model.Grants as grants
use Rattle.law_controller_facts.specs.law_port_facts.Port.{IsLabelEnd, IsGrant}
use Rattle.law_controller_facts.proofs.law_port_facts.Keyed.{on_both, by_eq, at_key, at_every, at_put_same, at_put_other}
use Rattle.law_controller_facts.specs.world_model.Controller.{Acted, note, free_slots}
use Rattle.law_controller_facts.specs.world_model.Sending.{with_cells}
use Rattle.law_controller_facts.specs.world_model.Joins.{Join}
use Rattle.law_controller_facts.specs.Sound.{IsSound, IsLinkedPort}
use Rattle.law_controller_facts.proofs.Moves.{Found, HasPorts, found_at_own, found_port}
use Rattle.law_controller_facts.proofs.Joining.{IsJoin, joins_are, join_input, parts_grants, parts_goes, granted_there}
use Rattle.law_controller_facts.proofs.Conditions.{of_label}
use Rattle.law_controller_facts.proofs.Laws.{has_ports, moves_sound}
use Rattle.law_controller_facts.proofs.law_port_facts.Found.{find_every, find_passes}
use Rattle.law_controller.specs.Match.{joined_in, lent_in, joined_at, lent_at, clearing_at, end_at}
use Rattle.law_controller.proofs.Asked.{same_end_itself}
use Rattle.law_controller.proofs.Lists.{either}
use Rattle.law_controller.proofs.Pairing.{without_other}
use Rattle.law_controller.proofs.Matched.{But, end_is, one_pair, here_now, there_now, joined_put, lent_put, clearing_put, released_but}
use Rattle.law_controller.proofs.Releasing.{number_at, IsGivenBack, given_back_parts, free_standing, tells_parts}
use Rattle.law_controller.proofs.Saying.{IsSay}

module _ (setups : List Setup) where
  parts_sound : (a : Acted) (input : End) → IsSound setups a.controller → IsSound setups (parts a input).controller
  parts_sound a input s = moves_sound setups a (parts a input) (parts_goes setups a input (has_ports setups a s)) s

  -- *A grant that is lent is lent to a label's channel*
  pub lent_proper : (a : Acted) → HasPorts setups a → (r k : ℕ) (input : End) → lent_at a.controller.ports r k ≡ Some input → IsLabelEnd setups input
  lent_proper a h r k input e = by_port (at port_key r a.controller.ports) refl e
    where
      by_grant : (linked : Linked) → IsLinkedPort setups linked → (o : Option Grant) → at grant_label k linked.port.grants ≡ o → option_and_then (λ (g : Grant). grants.lent_input g.state) o ≡ Some input → IsLabelEnd setups input
      by_grant linked fits None found e = absurd (cc e)
      by_grant linked fits (Some g) found e = (at_every grant_label (IsGrant setups linked.setup) k linked.port.grants g fits.grants found).input input e

      by_port : (o : Option Linked) → at port_key r a.controller.ports ≡ o → option_and_then (λ (x : Linked). lent_in x.port.grants k) o ≡ Some input → IsLabelEnd setups input
      by_port None found e = absurd (cc e)
      by_port (Some linked) found e = by_grant linked (at_every port_key (IsLinkedPort setups) r a.controller.ports linked h.ports.each found) (at grant_label k linked.port.grants) refl e

  pub end_of : (e : End) → IsLabelEnd setups e → end_at e.port.0 (number_of_channel e.channel) ≡ e
  end_of e end = ap (λ (c : Channel). record e { channel = c }) (label_channel_of-number_of_channel e.channel (of_label setups e end))

  -- *A label is parted*
  pub record IsParted (e : End) (ports now : List Linked) : Type 0 where
    pub other : (p n : ℕ) → end_at p n ≢ e → joined_at now p n ≡ joined_at ports p n
    pub this : (p n : ℕ) → end_at p n ≡ e → joined_at now p n ≡ None
    pub lends : (q m : ℕ) → lent_at now q m ≡ lent_at ports q m
    pub clears : (p : ℕ) → clearing_at now p ≡ clearing_at ports p

  -- the label of a number shows nothing, the others what they did
  pub record Hides (number : ℕ) (before after : List Label) : Type 0 where
    pub other : (k : ℕ) → number ≢ k → joined_in after k ≡ joined_in before k
    pub this : joined_in after number ≡ None

  pub hides_put : (e : End) (ports : List Linked) (linked : Linked) (after : Linked) → at port_key (port_key linked) ports ≡ Some linked → port_key after ≡ port_key linked → port_key linked ≡ e.port.0 → IsLabelEnd setups e
      → Hides (number_of_channel e.channel) (labels_of linked.port) (labels_of after.port) → after.port.grants ≡ linked.port.grants → after.port.adjacency ≡ linked.port.adjacency → IsParted e ports (put port_key after ports)
  hides_put e ports linked after found key here end hides gs side = record {
    other = λ p n differs. one_pair e.port.0 (number_of_channel e.channel) p n
        (λ a b. absurd (differs (sym (ap (λ (x : ℕ). end_at x (number_of_channel e.channel)) a ∙ ap (λ (x : ℕ). end_at p x) b) ∙ end_of e end)))
        (λ apart. by_eq (port_key after) p
        (λ is t. joined_put ports linked after found key n (hides.other n (λ b. apart (sym here ∙ sym key ∙ is) b)) p)
        (λ away t. ap (option_and_then (λ (x : Linked). joined_in (labels_of x.port) n)) (there_now ports linked after found key p away)));
    this = λ p n is. (let at_p : port_key after ≡ p = key ∙ here ∙ sym (ap (λ (x : End). x.port.0) is) in
        ap (option_and_then (λ (x : Linked). joined_in (labels_of x.port) n)) (here_after p at_p) ∙ ap (joined_in (labels_of after.port)) (number_at (record { 0 = p }) n e is) ∙ hides.this);
    lends = λ q m. lent_put ports linked after found key m (ap (λ (xs : List Grant). lent_in xs m) gs) q;
    clears = λ p. clearing_put ports linked after found key (ap (λ side. is_clearing side.state) side) p;
  }
    where
      here_after : (p : ℕ) → port_key after ≡ p → at port_key p (put port_key after ports) ≡ Some after
      here_after p is = here_now ports linked after found key p is

  hides_label : (number : ℕ) (linked : Linked) (label : Label) → label_at linked.port number ≡ Some label
      → Hides number (labels_of linked.port) (labels_of (record linked.port { session = option_map (λ (s : Session). record s { labels = put label_number (record label { join = None }) s.labels }) linked.port.session }))
  hides_label number linked label found = by_session linked.port.session refl
    where
      is_number : label.number ≡ number
      is_number = at_key label_number number (labels_of linked.port) label found

      by_session : (o : Option Session) → linked.port.session ≡ o
          → Hides number (labels_of linked.port) (option_map_or (λ (s : Session). s.labels) (option_map (λ (s : Session). record s { labels = put label_number (record label { join = None }) s.labels }) o) [])
      by_session None is = record { other = λ k differs. ap (λ (o : Option Session). joined_in (option_map_or (λ (s : Session). s.labels) o []) k) (sym is); this = refl }
      by_session (Some s) is =
          let same : labels_of linked.port ≡ s.labels = ap (λ (o : Option Session). option_map_or (λ (x : Session). x.labels) o []) is in
          let there : at label_number label.number s.labels ≡ Some label = subst (λ (ls : List Label). at label_number label.number ls ≡ Some label) same (subst (λ n. label_at linked.port n ≡ Some label) (sym is_number) found) in
          record {
            other = λ k differs. ap (option_and_then (λ (x : Label). x.join)) (at_put_other label_number (record label { join = None }) k s.labels (λ e. differs (sym is_number ∙ e))) ∙ ap (λ (ls : List Label). joined_in ls k) (sym same);
            this = subst (λ n. joined_in (put label_number (record label { join = None }) s.labels) n ≡ None) is_number (ap (option_and_then (λ (x : Label). x.join)) (at_put_same label_number (record label { join = None }) s.labels label there));
          }

  pub parts_parted : (a : Acted) (e : End) → IsLabelEnd setups e → IsParted e a.controller.ports (parts a e).controller.ports
  parts_parted a e end = by_found (linked_at noted.controller e.port) refl
    where
      noted : Acted
      noted = note a (Part a.controller.node e.port (number_of_channel e.channel))

      by_label : (linked : Linked) → linked_at noted.controller e.port ≡ Some linked → (o : Option Label) → label_at linked.port (number_of_channel e.channel) ≡ o
          → IsParted e a.controller.ports (works_as noted linked (joins_label (begins noted linked) None o)).controller.ports
      by_label linked found None there = hides_put e a.controller.ports linked (record linked { port = linked.port }) (found_at_own setups noted linked e.port found) refl (at_key port_key e.port.0 a.controller.ports linked found) end
          (record { other = λ k differs. refl; this = ap (option_and_then (λ (x : Label). x.join)) there }) refl refl
      by_label linked found (Some label) there = hides_put e a.controller.ports linked (record linked { port = (joins_label (begins noted linked) None (Some label)).port }) (found_at_own setups noted linked e.port found) refl
          (at_key port_key e.port.0 a.controller.ports linked found) end (hides_label (number_of_channel e.channel) linked label there) refl refl

      by_found : (o : Option Linked) → linked_at noted.controller e.port ≡ o → IsParted e a.controller.ports (works noted (λ setup desk w. parted w (number_of_channel e.channel)) o).controller.ports
      by_found None found = record {
        other = λ p n differs. refl;
        this = λ p n is. ap (option_and_then (λ (x : Linked). joined_in (labels_of x.port) n)) (subst (λ k. at port_key k a.controller.ports ≡ None) (sym (ap (λ (x : End). x.port.0) is)) found);
        lends = λ q m. refl;
        clears = λ p. refl;
      }
      by_found (Some linked) found = by_label linked found (label_at linked.port (number_of_channel e.channel)) refl

  pub parts_met : (a : Acted) (e : End) → (parts a e).controller.has_met ≡ a.controller.has_met
  parts_met a e = by_found (linked_at noted.controller e.port)
    where
      noted : Acted
      noted = note a (Part a.controller.node e.port (number_of_channel e.channel))

      by_label : (linked : Linked) (o : Option Label) → (works_as noted linked (joins_label (begins noted linked) None o)).controller.has_met ≡ a.controller.has_met
      by_label linked None = refl
      by_label linked (Some label) = refl

      by_found : (o : Option Linked) → (works noted (λ setup desk w. parted w (number_of_channel e.channel)) o).controller.has_met ≡ a.controller.has_met
      by_found None = refl
      by_found (Some linked) = by_label linked (label_at linked.port (number_of_channel e.channel))

  -- *A grant is given back*
  pub record IsGivenUp (q m : ℕ) (ports now : List Linked) : Type 0 where
    pub joins : (p n : ℕ) → joined_at now p n ≡ joined_at ports p n
    pub other : (r k : ℕ) → (q ≡ r → m ≡ k → ⊥) → lent_at now r k ≡ lent_at ports r k
    pub this : lent_at now q m ≡ None
    pub clears : (p : ℕ) → clearing_at now p ≡ clearing_at ports p

  say_ports : (port : PortNo) (b : Acted) (x : Action) → IsSay x → (performs port b x).controller.ports ≡ b.controller.ports
  say_ports port b (Say message) is = on_both (λ (x : Sender Controller). x.queues.ports ≡ b.controller.ports)
      (nat_le (length (frame_cells (default_home port).channel (next_control b.numbers) (default_payload (ifmp_packet_of b.controller.address (ifmp_octets message))))) (free_slots b.controller))
      (record { queues = with_cells b.controller (frame_cells (default_home port).channel (next_control b.numbers) (default_payload (ifmp_packet_of b.controller.address (ifmp_octets message)))); notes = made b.notes (next_control b.numbers) (default_payload (ifmp_packet_of b.controller.address (ifmp_octets message))) })
      (record { queues = b.controller; notes = noted (made b.notes (next_control b.numbers) (default_payload (ifmp_packet_of b.controller.address (ifmp_octets message)))) (Loss (next_control b.numbers) PoolFull) }) refl refl
  say_ports port b (Ask request needed) is = absurd is
  say_ports port b (Note item) is = absurd is
  say_ports port b (CutChain label) is = absurd is
  say_ports port b (TakeBack input output) is = absurd is
  say_ports port b (Withdraw input) is = absurd is
  say_ports port b actions.Reset is = absurd is

  says_ports : (port : PortNo) (xs : List Action) (b : Acted) → Every IsSay xs → (fold (performs_in_estab port) b xs).controller.ports ≡ b.controller.ports
  says_ports port [] b all = refl
  says_ports port (x ∷ xs) b all = says_ports port xs (performs_in_estab port b x) all.1
      ∙ on_both (λ (v : Acted). v.controller.ports ≡ b.controller.ports) (is_estab b.controller.adjacency.state) (performs port b x) b (say_ports port b x all.0) refl

  say_met : (port : PortNo) (b : Acted) (x : Action) → IsSay x → (performs port b x).controller.has_met ≡ b.controller.has_met
  say_met port b (Say message) is = on_both (λ (x : Sender Controller). x.queues.has_met ≡ b.controller.has_met)
      (nat_le (length (frame_cells (default_home port).channel (next_control b.numbers) (default_payload (ifmp_packet_of b.controller.address (ifmp_octets message))))) (free_slots b.controller))
      (record { queues = with_cells b.controller (frame_cells (default_home port).channel (next_control b.numbers) (default_payload (ifmp_packet_of b.controller.address (ifmp_octets message)))); notes = made b.notes (next_control b.numbers) (default_payload (ifmp_packet_of b.controller.address (ifmp_octets message))) })
      (record { queues = b.controller; notes = noted (made b.notes (next_control b.numbers) (default_payload (ifmp_packet_of b.controller.address (ifmp_octets message)))) (Loss (next_control b.numbers) PoolFull) }) refl refl
  say_met port b (Ask request needed) is = absurd is
  say_met port b (Note item) is = absurd is
  say_met port b (CutChain label) is = absurd is
  say_met port b (TakeBack input output) is = absurd is
  say_met port b (Withdraw input) is = absurd is
  say_met port b actions.Reset is = absurd is

  says_met : (port : PortNo) (xs : List Action) (b : Acted) → Every IsSay xs → (fold (performs_in_estab port) b xs).controller.has_met ≡ b.controller.has_met
  says_met port [] b all = refl
  says_met port (x ∷ xs) b all = says_met port xs (performs_in_estab port b x) all.1
      ∙ on_both (λ (v : Acted). v.controller.has_met ≡ b.controller.has_met) (is_estab b.controller.adjacency.state) (performs port b x) b (say_met port b x all.0) refl

  gives_up_met : (b : Acted) (linked : Linked) (g : Grant) (e : End) → Found setups b linked → at grant_label g.label linked.port.grants ≡ Some g → grants.lent_input g.state ≡ Some e → HasPorts setups b
      → (works_as b linked (given_back (begins b linked) g)).controller.has_met ≡ b.controller.has_met
  gives_up_met b linked g e found granted to h =
      let w : Work = given_back (begins b linked) g in
      says_met linked.setup.port w.actions (with_work b linked w) (given_back_parts setups b linked g e g.state granted (found_port setups b linked linked.setup.port h found).apart refl to).says

  -- the grant of a number shows nothing, the others what they did
  record Ends (number : ℕ) (before after : List Grant) : Type 0 where
    other : (k : ℕ) → number ≢ k → lent_in after k ≡ lent_in before k
    this : lent_in after number ≡ None

  put_ends : (gs : List Grant) (g new : Grant) → at grant_label g.label gs ≡ Some g → new.label ≡ g.label → grants.lent_input new.state ≡ None → Ends g.label gs (put grant_label new gs)
  put_ends gs g new found same none = record {
    other = λ k differs. ap (option_and_then (λ (x : Grant). grants.lent_input x.state)) (at_put_other grant_label new k gs (λ e. differs (sym same ∙ e)));
    this = subst (λ n. lent_in (put grant_label new gs) n ≡ None) same (ap (option_and_then (λ (x : Grant). grants.lent_input x.state)) (at_put_same grant_label new gs g (subst (λ n. at grant_label n gs ≡ Some g) (sym same) found)) ∙ none);
  }

  gone_at : (k : ℕ) (gs : List Grant) → at grant_label k (without grant_label k gs) ≡ None
  gone_at k [] = refl
  gone_at k (g ∷ gs) = by_eq (grant_label g) k
      (λ is t. ap (λ (b : Bool). at grant_label k (if b then without grant_label k gs else g ∷ without grant_label k gs)) t ∙ gone_at k gs)
      (λ other t. ap (λ (b : Bool). at grant_label k (if b then without grant_label k gs else g ∷ without grant_label k gs)) t ∙ ap (λ (b : Bool). if b then Some g else at grant_label k (without grant_label k gs)) t ∙ gone_at k gs)

  without_ends : (gs : List Grant) (label : ℕ) → Ends label gs (without grant_label label gs)
  without_ends gs label = record {
    other = λ k differs. without_other grant_label (λ (x : Grant). grants.lent_input x.state) label k gs differs;
    this = ap (option_and_then (λ (x : Grant). grants.lent_input x.state)) (gone_at label gs);
  }

  given_ends : (b : Acted) (linked : Linked) (g : Grant) (e : End) (state : GrantState) → at grant_label g.label linked.port.grants ≡ Some g → grants.lent_input state ≡ Some e
      → Ends g.label linked.port.grants (given_back_in (begins b linked) g state).port.grants
  given_ends b linked g e Idle found to = absurd (cc to)
  given_ends b linked g e ByController found to = absurd (cc to)
  given_ends b linked g e (ByInput given) found to = put_ends linked.port.grants g (record g { state = ByController }) found refl refl
  given_ends b linked g e (Leaving given true) found to =
      let gone : Work = without_grant (begins b linked) g.label in
      let told = tells_parts setups gone (reclaim_ack (label_channel_of g.label) g.flow) in
      subst (λ (gs : List Grant). Ends g.label linked.port.grants gs) (sym told.0) (without_ends linked.port.grants g.label)
  given_ends b linked g e (Leaving given false) found to = without_ends linked.port.grants g.label

  gives_up : (b : Acted) (linked : Linked) (g : Grant) (e : End) → Found setups b linked → at grant_label g.label linked.port.grants ≡ Some g → grants.lent_input g.state ≡ Some e → HasPorts setups b
      → IsGivenUp (port_key linked) g.label b.controller.ports (works_as b linked (given_back (begins b linked) g)).controller.ports
  gives_up b linked g e found granted to h =
      let w : Work = given_back (begins b linked) g in
      let after : Linked = record linked { port = w.port } in
      let back : IsGivenBack setups linked e w = given_back_parts setups b linked g e g.state granted (found_port setups b linked linked.setup.port h found).apart refl to in
      let ends : Ends g.label linked.port.grants w.port.grants = given_ends b linked g e g.state granted to in
      subst (λ (ports : List Linked). IsGivenUp (port_key linked) g.label b.controller.ports ports) (sym (says_ports linked.setup.port w.actions (with_work b linked w) back.says)) (record {
        joins = λ p n. joined_put b.controller.ports linked after found refl n (ap (λ (ls : List Label). joined_in ls n) back.labels) p;
        other = λ r k apart. by_eq (port_key linked) r
            (λ is t. lent_put b.controller.ports linked after found refl k (ends.other k (λ same. apart is same)) r)
            (λ away t. ap (option_and_then (λ (x : Linked). lent_in x.port.grants k)) (there_now b.controller.ports linked after found refl r away));
        this = ap (option_and_then (λ (x : Linked). lent_in x.port.grants g.label)) (here_now b.controller.ports linked after found refl (port_key linked) refl) ∙ ends.this;
        clears = λ p. clearing_put b.controller.ports linked after found refl (ap (λ side. is_clearing side.state) back.side) p;
      })

  -- *A join is released*
  pub record IsReleased (Out : PortNo → Type 0) (a c : Acted) (e : End) : Type 0 where
    pub fits : But Out c.controller.ports c.controller.has_met c.controller.desk
    pub less : (r k : ℕ) (input : End) → lent_at c.controller.ports r k ≡ Some input → (lent_at a.controller.ports r k ≡ Some input) × (input ≢ e)
    pub clears : (p : ℕ) → clearing_at c.controller.ports p ≡ clearing_at a.controller.ports p

  pub releases_join_fits : (Out : PortNo → Type 0) (a : Acted) (join : Join) → IsJoin setups a join → on_input a.controller.desk join.input ≡ false → IsSound setups a.controller → But Out a.controller.ports a.controller.has_met a.controller.desk
      → (releases_join a (Some join)).controller.desk ≡ a.controller.desk → IsReleased Out a (releases_join a (Some join)) join.input
  releases_join_fits Out a join is free s h desk = by_found (linked_at b.controller join.port) refl desk
    where
      b : Acted
      b = parts a join.input

      has : HasPorts setups a
      has = has_ports setups a s

      end : IsLabelEnd setups join.input
      end = join_input setups a join has is

      parted_now : IsParted join.input a.controller.ports b.controller.ports
      parted_now = parts_parted a join.input end

      lent_before : lent_at a.controller.ports join.port.0 join.grant.label ≡ Some join.input
      lent_before = ap (option_and_then (λ (x : Linked). lent_in x.port.grants join.grant.label)) is.found ∙ ap (option_and_then (λ (g : Grant). grants.lent_input g.state)) is.granted ∙ is.input

      proper : (r k : ℕ) (input : End) → lent_at a.controller.ports r k ≡ Some input → end_at input.port.0 (number_of_channel input.channel) ≡ input
      proper r k input e = end_of input (lent_proper a has r k input e)

      not_none : (x : End) → None ≡ Some x → ⊥
      not_none x e = absurd (cc e)

      rule : Rule
      rule setup desk w = given_back w join.grant

      by_found : (o : Option Linked) → linked_at b.controller join.port ≡ o → (works b rule o).controller.desk ≡ a.controller.desk → IsReleased Out a (works b rule o) join.input
      by_found None found same = (let there : None ≡ Some is.linked.port.grants = ap (option_map (λ (x : Linked). x.port.grants)) (sym found) ∙ parts_grants setups a join.input join.port.0 has ∙ ap (option_map (λ (x : Linked). x.port.grants)) is.found in absurd (cc there))
      by_found (Some linked) found same =
          let granted : at grant_label join.grant.label linked.port.grants ≡ Some join.grant = granted_there setups a b join linked is (parts_grants setups a join.input join.port.0 has) found in
          let own : Found setups b linked = found_at_own setups b linked join.port found in
          let key : port_key linked ≡ join.port.0 = at_key port_key join.port.0 b.controller.ports linked found in
          let c : Acted = works_as b linked (given_back (begins b linked) join.grant) in
          let up : IsGivenUp join.port.0 join.grant.label b.controller.ports c.controller.ports = subst (λ (q : ℕ). IsGivenUp q join.grant.label b.controller.ports c.controller.ports) key
          (gives_up b linked join.grant join.input own granted is.input (has_ports setups b (parts_sound a join.input s))) in
          record {
            fits = subst (λ (t : Bool). But Out c.controller.ports t c.controller.desk) (sym (gives_up_met b linked join.grant join.input own granted is.input (has_ports setups b (parts_sound a join.input s)) ∙ parts_met a join.input)) (subst (λ (d : Desk). But Out c.controller.ports a.controller.has_met d) (sym same) (released_but Out a.controller.ports c.controller.ports a.controller.has_met a.controller.desk join.input join.port.0 join.grant.label
                (λ p n differs. up.joins p n ∙ parted_now.other p n differs) (λ p n e. up.joins p n ∙ parted_now.this p n e) (λ p. up.clears p ∙ parted_now.clears p) proper
                lent_before (λ r k apart. up.other r k apart ∙ parted_now.lends r k) up.this (free_standing setups join.input a.controller.desk.standing free) h));
            less = λ r k input e. one_pair join.port.0 join.grant.label r k
                (λ x y. absurd (not_none input (sym (subst (λ i. lent_at c.controller.ports i k ≡ None) x (subst (λ j. lent_at c.controller.ports join.port.0 j ≡ None) y up.this)) ∙ e)))
                (λ apart. (let was : lent_at a.controller.ports r k ≡ Some input = sym (up.other r k apart ∙ parted_now.lends r k) ∙ e in
                (was, λ same_input. (let pair = h.once join.port.0 join.grant.label r k input (lent_before ∙ ap (λ (x : End). Some x) (sym same_input)) was in apart pair.0 pair.1))));
            clears = λ p. up.clears p ∙ parted_now.clears p;
          }

  -- *Whoever is lent is among the joins*
  any_entered : (f : Join → Bool) (le : Join → Join → Bool) (y : Join) (xs : List Join) → (f y || list_any f xs) ≡ true → list_any f (entered le y xs) ≡ true
  any_entered f le y [] e = e
  any_entered f le y (x ∷ xs) e = on_both (λ (zs : List Join). list_any f zs ≡ true) (le y x) (y ∷ x ∷ xs) (x ∷ entered le y xs) e
      (turns (f y) (f x) (list_any f xs) (list_any f (entered le y xs)) (λ t. any_entered f le y xs t) e)
    where
      turns : (a b c d : Bool) → ((a || c) ≡ true → d ≡ true) → (a || (b || c)) ≡ true → (b || d) ≡ true
      turns a true c d rest e = refl
      turns true false c d rest e = rest refl
      turns false false c d rest e = rest e

  any_in_order : (f : Join → Bool) (le : Join → Join → Bool) (xs : List Join) → list_any f xs ≡ true → list_any f (in_order le xs) ≡ true
  any_in_order f le [] e = e
  any_in_order f le (x ∷ xs) e = any_entered f le x (in_order le xs) (either (f x) (f x) (list_any f xs) (list_any f (in_order le xs)) (λ t. t) (λ t. any_in_order f le xs t) e)

  any_joined : (f : Join → Bool) (xs ys : List Join) → (list_any f xs || list_any f ys) ≡ true → list_any f (xs ++ ys) ≡ true
  any_joined f [] ys e = e
  any_joined f (x ∷ xs) ys e = by_head (λ t. any_joined f xs ys t) (f x) e
    where
      by_head : ((list_any f xs || list_any f ys) ≡ true → list_any f (xs ++ ys) ≡ true) → (b : Bool) → ((b || list_any f xs) || list_any f ys) ≡ true → (b || list_any f (xs ++ ys)) ≡ true
      by_head rest true e = refl
      by_head rest false e = rest e

  any_at_port : (f : Join → Bool) (key : ℕ) (ports : List Linked) (linked : Linked) → at port_key key ports ≡ Some linked → list_any f (joins_at linked) ≡ true → list_any f (flat_map joins_at ports) ≡ true
  any_at_port f key [] linked found e = absurd (cc found)
  any_at_port f key (x ∷ ports) linked found e = by_eq (port_key x) key
      (λ is t. (let first : Some x ≡ Some linked = sym (ap (λ (b : Bool). if b then Some x else at port_key key ports) t) ∙ found in let same : x ≡ linked = cc in
      any_joined f (joins_at x) (flat_map joins_at ports) (ap (λ b. b || list_any f (flat_map joins_at ports)) (ap (λ (y : Linked). list_any f (joins_at y)) same ∙ e))))
      (λ other t. any_joined f (joins_at x) (flat_map joins_at ports) (second (list_any f (joins_at x)) (any_at_port f key ports linked (sym (ap (λ (b : Bool). if b then Some x else at port_key key ports) t) ∙ found) e)))
    where
      second : (b : Bool) {c : Bool} → c ≡ true → (b || c) ≡ true
      second true e = refl
      second false e = e

  any_lent : (port : PortNo) (input : End) (k : ℕ) (gs : List Grant) (g : Grant) → at grant_label k gs ≡ Some g → grants.lent_input g.state ≡ Some input → list_any (λ (join : Join). same_end join.input input) (filter_map (join_to port) gs) ≡ true
  any_lent port input k [] g found to = absurd (cc found)
  any_lent port input k (x ∷ gs) g found to = by_eq (grant_label x) k
      (λ is t. (let first : Some x ≡ Some g = sym (ap (λ (b : Bool). if b then Some x else at grant_label k gs) t) ∙ found in let same : x ≡ g = cc in
      here (join_to port x) (ap (option_map (λ (i : End). record { input = i; port = port; grant = x })) (ap (λ (y : Grant). grants.lent_input y.state) same ∙ to))))
      (λ other t. later (join_to port x) (any_lent port input k gs g (sym (ap (λ (b : Bool). if b then Some x else at grant_label k gs) t) ∙ found) to))
    where
      here : (o : Option Join) → o ≡ Some (record { input = input; port = port; grant = x }) → list_any (λ (join : Join). same_end join.input input) (cons_option o (filter_map (join_to port) gs)) ≡ true
      here None e = absurd (cc e)
      here (Some join) e = (let same : join ≡ record { input = input; port = port; grant = x } = cc in ap (λ b. b || list_any (λ (join : Join). same_end join.input input) (filter_map (join_to port) gs)) (ap (λ (join : Join). same_end join.input input) same ∙ same_end_itself input))

      later : (o : Option Join) → list_any (λ (join : Join). same_end join.input input) (filter_map (join_to port) gs) ≡ true → list_any (λ (join : Join). same_end join.input input) (cons_option o (filter_map (join_to port) gs)) ≡ true
      later None e = e
      later (Some join) e = second (same_end join.input input) e
        where
          second : (b : Bool) {c : Bool} → c ≡ true → (b || c) ≡ true
          second true e = refl
          second false e = e

  pub lent_joins : (a : Acted) (r k : ℕ) (input : End) → lent_at a.controller.ports r k ≡ Some input → list_any (λ (join : Join). same_end join.input input) (joins_of a.controller) ≡ true
  lent_joins a r k input e = any_in_order (λ (join : Join). same_end join.input input) (λ (x : Join) (y : Join). end_le x.input y.input) (flat_map joins_at a.controller.ports) (by_port (at port_key r a.controller.ports) refl e)
    where
      by_grant : (linked : Linked) → at port_key r a.controller.ports ≡ Some linked → (o : Option Grant) → at grant_label k linked.port.grants ≡ o → option_and_then (λ (g : Grant). grants.lent_input g.state) o ≡ Some input
          → list_any (λ (join : Join). same_end join.input input) (flat_map joins_at a.controller.ports) ≡ true
      by_grant linked found None there e = absurd (cc e)
      by_grant linked found (Some g) there e = any_at_port (λ (join : Join). same_end join.input input) r a.controller.ports linked found (any_lent linked.setup.port input k linked.port.grants g there e)

      by_port : (o : Option Linked) → at port_key r a.controller.ports ≡ o → option_and_then (λ (x : Linked). lent_in x.port.grants k) o ≡ Some input → list_any (λ (join : Join). same_end join.input input) (flat_map joins_at a.controller.ports) ≡ true
      by_port None found e = absurd (cc e)
      by_port (Some linked) found e = by_grant linked found (at grant_label k linked.port.grants) refl e

  -- *Released inputs*, one after the other
  pub releases_input_fits : (Out : PortNo → Type 0) (a : Acted) (e : End) → on_input a.controller.desk e ≡ false → IsSound setups a.controller → But Out a.controller.ports a.controller.has_met a.controller.desk → (releases_input a e).controller.desk ≡ a.controller.desk → IsReleased Out a (releases_input a e) e
  releases_input_fits Out a e free s h desk = by_join (join_of a.controller e) refl desk
    where
      none_left : (xs : List Join) → find (λ (join : Join). same_end join.input e) xs ≡ None → list_any (λ (join : Join). same_end join.input e) xs ≡ true → ⊥
      none_left [] f t = absurd (cc t)
      none_left (x ∷ xs) f t = by_test (λ g u. none_left xs g u) (same_end x.input e) f t
        where
          by_test : (find (λ (join : Join). same_end join.input e) xs ≡ None → list_any (λ (join : Join). same_end join.input e) xs ≡ true → ⊥) → (b : Bool)
              → (if b then Some x else find (λ (join : Join). same_end join.input e) xs) ≡ None → (b || list_any (λ (join : Join). same_end join.input e) xs) ≡ true → ⊥
          by_test rest true f t = absurd (cc f)
          by_test rest false f t = rest f t

      by_join : (o : Option Join) → join_of a.controller e ≡ o → (releases_join a o).controller.desk ≡ a.controller.desk → IsReleased Out a (releases_join a o) e
      by_join None is same = record {
        fits = h;
        less = λ r k input lent. (lent, λ on. none_left (joins_of a.controller) is (lent_joins a r k e (lent ∙ ap (λ (x : End). Some x) on)));
        clears = λ p. refl;
      }
      by_join (Some join) is same =
          let on : join.input ≡ e = end_is join.input e (find_passes (λ (x : Join). same_end x.input e) (joins_of a.controller) join is) in
          let r : IsReleased Out a (releases_join a (Some join)) join.input = releases_join_fits Out a join (find_every (IsJoin setups a) (λ (x : Join). same_end x.input e) (joins_of a.controller) join (joins_are setups a (has_ports setups a s)) is) (ap (λ (x : End). on_input a.controller.desk x) on ∙ free) s h same in
          record { fits = r.fits; less = λ q m input lent. ((r.less q m input lent).0, λ same_input. (r.less q m input lent).1 (same_input ∙ sym on)); clears = r.clears }
