-- a join is released only when nothing stands on its input, and keeps requests and joins in order

use Rattle.std.proofs.Common.{◌≡◌, ◌≢◌, ℕ, Bool, true, false, List, [], ◌∷◌, ◌++◌, Option, None, Some, refl, sym, ◌∙◌, ap, subst, arith, ◌<◌, if◌then◌else◌, inl, map, fold}
use Rattle.std.specs.Prelude.{◌+◌, ◌||◌, nat_lt}
use Rattle.std.specs.List.{list_any}
use Rattle.std.specs.Option.{option_map, option_map_or}
use Rattle.std.proofs.lemmas.Bool.Decides.{nat_tests}
use Rattle.law_controller_facts.specs.world_model.Words.{PortNo, End, number_of_channel, label_channel_of, Request, Part, same_end, at, put, without, is_on, leads_home, Desk, Standing, on_input, Action, Say, Setup, home_of, label_end, Label, label_number, Grant, GrantState, Idle, ByController, ByInput, Leaving, grant_label, Session, Work, with_session, without_grant, label_at, labels_of, Unnumbered, last_number, spent_number, own_instance, tells_in, tells, reclaim_ack, halts_if_spent, joins_label, parted, given_back_in, given_back, Linked, port_key, linked_at, begins, with_work, works, works_as, joins_of, join_of, parts, releases_join, releases_input, released_inputs, resets_spent, releases}
use Rattle.law_controller_facts.proofs.world_model.net_types.Labels.{number_of_channel-label_channel_of}
use Rattle.law_controller_facts.specs.ordered_lists.Ordered.{Every, InOrder}
use Rattle.law_controller_facts.proofs.ordered_lists.Every.{every_map, every_map2, every_mapped, every_join}
use Rattle.law_controller_facts.specs.world_model.port_model.Requests.{request_input}
use Rattle.law_controller_facts.specs.world_model.port_model.Grants as grants
use Rattle.law_controller_facts.specs.world_model.port_model.Port.{Port, with_action}
use Rattle.law_controller_facts.specs.world_model.port_model.Saying.{peer_instance}
use Rattle.law_controller_facts.specs.law_port_facts.Port.{IsLabelEnd, IsBefore}
use Rattle.law_controller_facts.proofs.law_port_facts.Keyed.{on_both, by_eq, at_key, at_every, put_every}
use Rattle.law_controller_facts.proofs.law_port_facts.Found.{filter_passes, tells_labels}
use Rattle.law_controller_facts.proofs.law_port_facts.Steps as steps_of
use Rattle.law_controller_facts.proofs.law_port_facts.Steps.{steps_to}
use Rattle.law_controller_facts.specs.world_model.Controller.{Acted, ports_of, note}
use Rattle.law_controller_facts.specs.world_model.Joins.{Join}
use Rattle.law_controller_facts.proofs.Moves.{Worked, by_parting, by_giving_back, Found, placing, moves_to, HasPorts, found_at_own, found_port}
use Rattle.law_controller_facts.proofs.Joining.{IsJoin, joins_are, join_input, parts_grants, granted_there, every_filter}
use Rattle.law_controller_facts.proofs.Unmet.{put_each, none_with, ports_apart}
use Rattle.law_controller_facts.proofs.Laws.{has_ports, moves_sound}
use Rattle.law_controller_facts.proofs.law_port_facts.Found.{find_every, find_passes}
use Rattle.law_controller.specs.Order.{lends, lends_at, is_lent, IsLentTo}
use Rattle.law_controller.proofs.Lists.{any_put_leads, any_gone, any_each, either}
use Rattle.law_controller.proofs.Asked.{same_end_itself}
use Rattle.law_controller.proofs.Ordering.{placed_order}
use Rattle.law_controller.proofs.Holding.{Holds, numbered_holds, placed_holds, joined_at}
use Rattle.law_controller.proofs.Performing.{at_port_holds}
use Rattle.law_controller.proofs.Saying.{IsSay, SameDesk, says_hold, says_desk}

same_end_is : (a b : End) → same_end a b ≡ true → a ≡ b
same_end_is a b e = grind (arith, nat_tests)

-- *Another input* than e
abbrev pub IsOtherThan : End → End → Type 0
IsOtherThan e input = input ≢ e

abbrev pub IsUnjoined : End → Linked → Type 0
IsUnjoined e x = Every (λ (label : Label). (output : End) → label.join ≡ Some output → label_end x.setup.port label.number ≢ e) (labels_of x.port)

-- what a change of a session's labels keeps
pub session_every : (P : Label → Type 0) (port : Port) (change : Session → Session) → ((s : Session) → port.session ≡ Some s → Every P s.labels → Every P (change s).labels)
    → Every P (labels_of port) → Every P (labels_of (record port { session = option_map change port.session }))
session_every P port change keeps all = held port.session refl all
  where
    held : (o : Option Session) → port.session ≡ o → Every P (option_map_or (λ (s : Session). s.labels) o []) → Every P (option_map_or (λ (s : Session). s.labels) (option_map change o) [])
    held None is all = tt
    held (Some s) is all = keeps s is all

pub number_at : (port : PortNo) (n : ℕ) (e : End) → label_end port n ≡ e → n ≡ number_of_channel e.channel
number_at port n e is = sym (number_of_channel-label_channel_of n) ∙ ap (λ (x : End). number_of_channel x.channel) is

module _ (setups : List Setup) where
  -- *A label is parted*
  parted_holds : (b : Acted) (linked : Linked) (n : ℕ) (o : Option Label) → label_at linked.port n ≡ o → Found setups b linked → Holds setups b → Holds setups (works_as b linked (joins_label (begins b linked) None o))
  parted_holds b linked n None at_label found h = placed_holds setups b linked (begins b linked) found
      (subst (λ (o : Option Label). Worked setups linked.setup b.controller.desk (begins b linked) (joins_label (begins b linked) None o)) at_label (by_parting n)) (λ input is. is) (joined_at setups b linked found h) (λ e. e) h
  parted_holds b linked n (Some label) at_label found h = placed_holds setups b linked (joins_label (begins b linked) None (Some label)) found
      (subst (λ (o : Option Label). Worked setups linked.setup b.controller.desk (begins b linked) (joins_label (begins b linked) None o)) at_label (by_parting n)) (λ input is. is)
      (session_every (IsLentTo b.controller.ports linked) linked.port (λ s. record s { labels = put label_number (record label { join = None }) s.labels })
      (λ s is held. put_every label_number (IsLentTo b.controller.ports linked) (record label { join = None }) s.labels (λ output e. absurd (cc e)) held) (joined_at setups b linked found h)) (λ e. e) h

  pub parts_holds : (a : Acted) (input : End) → Holds setups a → Holds setups (parts a input)
  parts_holds a input h = by_found (linked_at noted.controller input.port) refl
    where
      noted : Acted
      noted = note a (Part a.controller.node input.port (number_of_channel input.channel))

      by_found : (o : Option Linked) → linked_at noted.controller input.port ≡ o → Holds setups (works noted (λ setup desk w. parted w (number_of_channel input.channel)) o)
      by_found None found = numbered_holds setups a noted.notes h
      by_found (Some linked) found = parted_holds noted linked (number_of_channel input.channel) (label_at linked.port (number_of_channel input.channel)) refl (found_at_own setups noted linked input.port found) (numbered_holds setups a noted.notes h)

  parted_desk : (b : Acted) (linked : Linked) (o : Option Label) → SameDesk setups b (works_as b linked (joins_label (begins b linked) None o))
  parted_desk b linked None = refl
  parted_desk b linked (Some label) = refl

  pub parts_desk : (a : Acted) (input : End) → SameDesk setups a (parts a input)
  parts_desk a input = by_found (linked_at noted.controller input.port)
    where
      noted : Acted
      noted = note a (Part a.controller.node input.port (number_of_channel input.channel))

      by_found : (o : Option Linked) → SameDesk setups a (works noted (λ setup desk w. parted w (number_of_channel input.channel)) o)
      by_found None = refl
      by_found (Some linked) = parted_desk noted linked (label_at linked.port (number_of_channel input.channel))

  -- then no label on its input is joined
  elsewhere : (e : End) (x : Linked) → port_key x ≢ e.port.0 → IsUnjoined e x
  elsewhere e x other = by_labels (labels_of x.port)
    where
      by_labels : (labels : List Label) → Every (λ (label : Label). (output : End) → label.join ≡ Some output → label_end x.setup.port label.number ≢ e) labels
      by_labels [] = tt
      by_labels (label ∷ labels) = ((λ output joined is. other (ap (λ (y : End). y.port.0) is)), by_labels labels)

  numbers_apart : (port : PortNo) (e : End) (labels : List Label) → Every (λ (label : Label). label_number label ≢ number_of_channel e.channel) labels
      → Every (λ (label : Label). (output : End) → label.join ≡ Some output → label_end port label.number ≢ e) labels
  numbers_apart port e [] all = tt
  numbers_apart port e (label ∷ labels) all = ((λ output joined is. all.0 (number_at port label.number e is)), numbers_apart port e labels all.1)

  ascend_apart : (labels : List Label) → InOrder IsBefore labels → InOrder (λ (x : Label) (y : Label). label_number x ≢ label_number y) labels
  ascend_apart [] h = tt
  ascend_apart (x ∷ labels) h = (below x labels h.0, ascend_apart labels h.1)
    where
      below : (x : Label) (ys : List Label) → Every (IsBefore x) ys → Every (λ (y : Label). label_number x ≢ label_number y) ys
      below x [] h = tt
      below x (y ∷ ys) h = ((λ e. differs (label_number x) (label_number y) h.0 e), below x ys h.1)
        where
          differs : (m n : ℕ) → m < n → m ≡ n → ⊥
          differs m n less e = omega (arith, less, e)

  unjoined_own : (b : Acted) (linked : Linked) (e : End) (o : Option Label) → label_at linked.port (number_of_channel e.channel) ≡ o → InOrder IsBefore (labels_of linked.port)
      → IsUnjoined e (record linked { port = (joins_label (begins b linked) None o).port })
  unjoined_own b linked e None found ascend = numbers_apart linked.setup.port e (labels_of linked.port) (none_with label_number (number_of_channel e.channel) (labels_of linked.port) found)
  unjoined_own b linked e (Some label) found ascend = by_session linked.port.session refl
    where
      number : label.number ≡ number_of_channel e.channel
      number = at_key label_number (number_of_channel e.channel) (labels_of linked.port) label found

      any : (labels : List Label) → Every (λ (x : Label). Unit {0}) labels
      any [] = tt
      any (x ∷ labels) = (tt, any labels)

      by_session : (o : Option Session) → linked.port.session ≡ o
          → Every (λ (x : Label). (output : End) → x.join ≡ Some output → label_end linked.setup.port x.number ≢ e)
          (option_map_or (λ (s : Session). s.labels) (option_map (λ (s : Session). record s { labels = put label_number (record label { join = None }) s.labels }) o) [])
      by_session None is = tt
      by_session (Some s) is = put_each label_number (λ (x : Label). Unit {0}) (λ (x : Label). (output : End) → x.join ≡ Some output → label_end linked.setup.port x.number ≢ e) (record label { join = None }) (λ output joined. absurd (cc joined))
          (λ x other any output joined same. other (number_at linked.setup.port x.number e same ∙ sym number)) s.labels
          (ascend_apart s.labels (subst (λ (o : Option Session). InOrder IsBefore (option_map_or (λ (s : Session). s.labels) o [])) is ascend)) (any s.labels)

  parts_unjoined : (a : Acted) (e : End) → HasPorts setups a → Every (IsUnjoined e) (parts a e).controller.ports
  parts_unjoined a e h = by_found (linked_at a.controller e.port) refl
    where
      noted : Acted
      noted = note a (Part a.controller.node e.port (number_of_channel e.channel))

      others : (ports : List Linked) → Every (λ (x : Linked). port_key x ≢ e.port.0) ports → Every (IsUnjoined e) ports
      others [] all = tt
      others (x ∷ ports) all = (elsewhere e x all.0, others ports all.1)

      any : (ports : List Linked) → Every (λ (x : Linked). Unit {0}) ports
      any [] = tt
      any (x ∷ ports) = (tt, any ports)

      with_one : (linked : Linked) → linked_at a.controller e.port ≡ Some linked → (o : Option Label) → label_at linked.port (number_of_channel e.channel) ≡ o
          → Every (IsUnjoined e) (put port_key (record linked { port = (joins_label (begins noted linked) None o).port }) a.controller.ports)
      with_one linked found o at_label = put_each port_key (λ (x : Linked). Unit {0}) (IsUnjoined e) (record linked { port = (joins_label (begins noted linked) None o).port })
          (unjoined_own noted linked e o at_label (found_port setups a linked e.port h found).ascend)
          (λ x other any. elsewhere e x (λ same. other (same ∙ sym (at_key port_key e.port.0 a.controller.ports linked found)))) a.controller.ports (ports_apart setups a h) (any a.controller.ports)

      by_label : (linked : Linked) → linked_at a.controller e.port ≡ Some linked → (o : Option Label) → label_at linked.port (number_of_channel e.channel) ≡ o
          → Every (IsUnjoined e) (works_as noted linked (joins_label (begins noted linked) None o)).controller.ports
      by_label linked found None at_label = with_one linked found None at_label
      by_label linked found (Some label) at_label = with_one linked found (Some label) at_label

      by_found : (o : Option Linked) → linked_at a.controller e.port ≡ o → Every (IsUnjoined e) (works noted (λ setup desk w. parted w (number_of_channel e.channel)) o).controller.ports
      by_found None found = others a.controller.ports (none_with port_key e.port.0 a.controller.ports found)
      by_found (Some linked) found = by_label linked found (label_at linked.port (number_of_channel e.channel)) refl

  -- *A grant is given back*
  pub record IsGivenBack (linked : Linked) (e : End) (w : Work) : Type 0 where
    pub labels : labels_of w.port ≡ labels_of linked.port
    pub side : w.port.adjacency ≡ linked.port.adjacency
    pub lends : (input : End) → IsOtherThan e input → list_any (lends input) linked.port.grants ≡ true → list_any (lends input) w.port.grants ≡ true
    pub says : Every IsSay w.actions

  not_same : (input e : End) → IsOtherThan e input → same_end input e ≡ true → ⊥
  not_same input e other is = other (same_end_is input e is)

  lends_gone : (input : End) (key : ℕ) (gs : List Grant) → ((x : Grant) → grant_label x ≡ key → at grant_label key gs ≡ Some x → lends input x ≡ true → ⊥) → InOrder (λ (x : Grant) (y : Grant). grant_label x ≢ grant_label y) gs
      → list_any (lends input) gs ≡ true → list_any (lends input) (without grant_label key gs) ≡ true
  lends_gone input key [] never apart is = is
  lends_gone input key (x ∷ gs) never apart is = by_eq (grant_label x) key
      (λ same t. ap (λ (b : Bool). list_any (lends input) (if b then without grant_label key gs else x ∷ without grant_label key gs)) t
      ∙ any_gone (lends input) grant_label key gs (apart_key gs same apart.0)
      ∙ behind (lends input x) (list_any (lends input) gs) (λ l. never x same (ap (λ (b : Bool). if b then Some x else at grant_label key gs) t) l) is)
      (λ other t. ap (λ (b : Bool). list_any (lends input) (if b then without grant_label key gs else x ∷ without grant_label key gs)) t
      ∙ either (lends input x) (lends input x) (list_any (lends input) gs) (list_any (lends input) (without grant_label key gs)) (λ l. l)
      (λ l. lends_gone input key gs (λ y at_key found. never y at_key (ap (λ (b : Bool). if b then Some x else at grant_label key gs) t ∙ found)) apart.1 l) is)
    where
      behind : (a b : Bool) → (a ≡ true → ⊥) → (a || b) ≡ true → b ≡ true
      behind true b none e = absurd (none refl)
      behind false b none e = e

      apart_key : (ys : List Grant) → grant_label x ≡ key → Every (λ (y : Grant). grant_label x ≢ grant_label y) ys → Every (λ (y : Grant). grant_label y ≢ key) ys
      apart_key [] same h = tt
      apart_key (y ∷ ys) same h = ((λ e. h.0 (same ∙ sym e)), apart_key ys same h.1)

  pub tells_parts : (w : Work) (message : Unnumbered) → ((tells w message).port.grants ≡ w.port.grants) × ((tells w message).port.adjacency ≡ w.port.adjacency) × (Every IsSay w.actions → Every IsSay (tells w message).actions)
  tells_parts w message = told w.port.session
    where
      numbered_parts : (change : Session → Session) → ((with_session w change).port.grants ≡ w.port.grants) × ((with_session w change).port.adjacency ≡ w.port.adjacency) × ((with_session w change).actions ≡ w.actions)
      numbered_parts change = on_both (λ (v : Work). (v.port.grants ≡ w.port.grants) × (v.port.adjacency ≡ w.port.adjacency) × (v.actions ≡ w.actions)) w.halted w (record w { port = record w.port { session = option_map change w.port.session } }) (refl, refl, refl) (refl, refl, refl)

      said_parts : (v : Work) (action : Action) → IsSay action → ((with_action v action).port.grants ≡ v.port.grants) × ((with_action v action).port.adjacency ≡ v.port.adjacency) × (Every IsSay v.actions → Every IsSay (with_action v action).actions)
      said_parts v action is = on_both (λ (u : Work). (u.port.grants ≡ v.port.grants) × (u.port.adjacency ≡ v.port.adjacency) × (Every IsSay v.actions → Every IsSay u.actions)) v.halted v (record v { actions = v.actions ++ action ∷ [] })
          (refl, refl, λ all. all) (refl, refl, λ all. every_join IsSay v.actions (action ∷ []) all (is, tt))

      told : (o : Option Session) → ((tells_in w message o).port.grants ≡ w.port.grants) × ((tells_in w message o).port.adjacency ≡ w.port.adjacency) × (Every IsSay w.actions → Every IsSay (tells_in w message o).actions)
      told None = (refl, refl, λ all. all)
      told (Some s) =
          let next : Work = with_session w (λ session. record session { number = s.number + 1 }) in
          let spent : Work = with_session w (λ session. record session { number = spent_number }) in
          let said : Action = Say (message (own_instance w.port.adjacency) (peer_instance w.port.adjacency) s.number) in
          let n = numbered_parts (λ session. record session { number = s.number + 1 }) in
          let m = numbered_parts (λ session. record session { number = spent_number }) in
          let k = said_parts next said tt in
          on_both (λ (v : Work). (v.port.grants ≡ w.port.grants) × (v.port.adjacency ≡ w.port.adjacency) × (Every IsSay w.actions → Every IsSay v.actions)) (nat_lt s.number last_number) (with_action next said) spent
          (k.0 ∙ n.0, k.1 ∙ n.1, λ all. k.2 (subst (Every IsSay) (sym n.2) all)) (m.0, m.1, λ all. subst (Every IsSay) (sym m.2) all)

  pub given_back_parts : (b : Acted) (linked : Linked) (grant : Grant) (e : End) (state : GrantState) → at grant_label grant.label linked.port.grants ≡ Some grant → InOrder (λ (x : Grant) (y : Grant). grant_label x ≢ grant_label y) linked.port.grants
      → grant.state ≡ state → grants.lent_input state ≡ Some e → IsGivenBack linked e (given_back_in (begins b linked) grant state)
  given_back_parts b linked grant e Idle granted apart is to = absurd (cc to)
  given_back_parts b linked grant e ByController granted apart is to = absurd (cc to)
  given_back_parts b linked grant e (ByInput given) granted apart is to = record {
    labels = refl;
    side = refl;
    lends = λ input other l. any_put_leads (lends input) grant_label (record grant { state = ByController }) linked.port.grants grant granted
        (λ m. absurd (not_same input e other (sym (ap (λ (o : Option End). option_map_or (same_end input) o false) (ap grants.lent_input is ∙ to)) ∙ m))) l;
    says = tt;
  }
  given_back_parts b linked grant e (Leaving given true) granted apart is to =
      let gone : Work = without_grant (begins b linked) grant.label in
      let told = tells_parts gone (reclaim_ack (label_channel_of grant.label) grant.flow) in
      record {
        labels = tells_labels gone (reclaim_ack (label_channel_of grant.label) grant.flow);
        side = told.1;
        lends = λ input other l. subst (λ (gs : List Grant). list_any (lends input) gs ≡ true) (sym told.0) (left_of_it input other l);
        says = told.2 tt;
      }
    where
      left_of_it : (input : End) → IsOtherThan e input → list_any (lends input) linked.port.grants ≡ true → list_any (lends input) (without grant_label grant.label linked.port.grants) ≡ true
      left_of_it input other l = lends_gone input grant.label linked.port.grants (λ x key found m. (let both : Some x ≡ Some grant = sym found ∙ granted in let same : x ≡ grant = cc in
          not_same input e other (sym (ap (λ (o : Option End). option_map_or (same_end input) o false) (ap (λ (g : Grant). grants.lent_input g.state) same ∙ ap grants.lent_input is ∙ to)) ∙ m))) apart l
  given_back_parts b linked grant e (Leaving given false) granted apart is to = record {
    labels = refl;
    side = refl;
    lends = λ input other l. lends_gone input grant.label linked.port.grants (λ x key found m. (let both : Some x ≡ Some grant = sym found ∙ granted in let same : x ≡ grant = cc in
        not_same input e other (sym (ap (λ (o : Option End). option_map_or (same_end input) o false) (ap (λ (g : Grant). grants.lent_input g.state) same ∙ ap grants.lent_input is ∙ to)) ∙ m))) apart l;
    says = tt;
  }

  pub free_standing : (e : End) (standing : List Standing) → list_any (λ (s : Standing). is_on e s.request) standing ≡ false → Every (λ (s : Standing). (input : End) → request_input s.request ≡ Some input → IsOtherThan e input) standing
  free_standing e standing none = every_map (λ (s : Standing). is_on e s.request ≡ false) (λ (s : Standing). (input : End) → request_input s.request ≡ Some input → IsOtherThan e input) standing
      (λ s off input on same. absurd (cc (sym (ap (λ (o : Option End). option_map_or (same_end e) o false) on ∙ ap (same_end e) same ∙ same_end_itself e) ∙ off)))
      (any_each (λ (s : Standing). is_on e s.request) standing none)

  gives_back_as : (b : Acted) (linked : Linked) (grant : Grant) (e : End) → Found setups b linked → at grant_label grant.label linked.port.grants ≡ Some grant → grants.lent_input grant.state ≡ Some e
      → Every (IsUnjoined e) b.controller.ports → on_input b.controller.desk e ≡ false → Holds setups b → Holds setups (works_as b linked (given_back (begins b linked) grant))
  gives_back_as b linked grant e found granted to unjoined free h =
      let w : Work = given_back (begins b linked) grant in
      let after : Linked = record linked { port = w.port } in
      let now : List Linked = put port_key after b.controller.ports in
      let back : IsGivenBack linked e w = given_back_parts b linked grant e grant.state granted (found_port setups b linked linked.setup.port (has_ports setups b h.sound) found).apart refl to in
      let keeps : (input : End) → IsOtherThan e input → is_lent b.controller.ports input ≡ true → is_lent now input ≡ true = λ (input : End) (other : IsOtherThan e input) (is : is_lent b.controller.ports input ≡ true).
      any_put_leads (lends_at input) port_key after b.controller.ports linked found (λ l. back.lends input other l) is in
      says_hold setups linked.setup.port w.actions (with_work b linked w) back.says (record {
        sound = moves_sound setups b (with_work b linked w) (moves_to (placing b linked w found (by_giving_back grant granted))) h.sound;
        order = placed_order b.controller.ports b.controller.has_met b.controller.desk linked after found refl (IsOtherThan e) keeps
            (subst (λ (labels : List Label). Every (IsLentTo now after) labels) (sym back.labels)
            (every_map2 (λ (label : Label). (output : End) → label.join ≡ Some output → label_end linked.setup.port label.number ≢ e) (IsLentTo b.controller.ports linked) (IsLentTo now after) (labels_of linked.port)
            (λ label other lent output joined. keeps (label_end linked.setup.port label.number) (other output joined) (lent output joined))
            (at_every port_key (IsUnjoined e) (port_key linked) b.controller.ports linked unjoined found) (joined_at setups b linked found h)))
            unjoined (free_standing e b.controller.desk.standing free) (inl (λ c. ap (λ side. side.state) back.side ∙ c)) h.order;
      })

  gives_back_desk : (b : Acted) (linked : Linked) (grant : Grant) (e : End) → Found setups b linked → at grant_label grant.label linked.port.grants ≡ Some grant → grants.lent_input grant.state ≡ Some e → HasPorts setups b
      → SameDesk setups b (works_as b linked (given_back (begins b linked) grant))
  gives_back_desk b linked grant e found granted to h =
      let w : Work = given_back (begins b linked) grant in
      says_desk setups linked.setup.port w.actions (with_work b linked w) (given_back_parts b linked grant e grant.state granted (found_port setups b linked linked.setup.port h found).apart refl to).says

  -- *A join is released*
  pub record Released (a b : Acted) : Type 0 where
    pub holds : Holds setups b
    pub desk : SameDesk setups a b

  releases_join_holds : (a : Acted) (join : Join) → IsJoin setups a join → on_input a.controller.desk join.input ≡ false → Holds setups a → Released a (releases_join a (Some join))
  releases_join_holds a join is free h = by_found (linked_at (parts a join.input).controller join.port) refl
    where
      parted_now : Holds setups (parts a join.input)
      parted_now = parts_holds a join.input h

      free_now : on_input (parts a join.input).controller.desk join.input ≡ false
      free_now = ap (λ (d : Desk). on_input d join.input) (parts_desk a join.input) ∙ free

      by_found : (o : Option Linked) → linked_at (parts a join.input).controller join.port ≡ o → Released a (works (parts a join.input) (λ setup desk w. given_back w join.grant) o)
      by_found None found = record { holds = parted_now; desk = parts_desk a join.input }
      by_found (Some linked) found =
          let granted : at grant_label join.grant.label linked.port.grants ≡ Some join.grant = granted_there setups a (parts a join.input) join linked is (parts_grants setups a join.input join.port.0 (has_ports setups a h.sound)) found in
          let own : Found setups (parts a join.input) linked = found_at_own setups (parts a join.input) linked join.port found in
          record {
            holds = gives_back_as (parts a join.input) linked join.grant join.input own granted is.input (parts_unjoined a join.input (has_ports setups a h.sound)) free_now parted_now;
            desk = gives_back_desk (parts a join.input) linked join.grant join.input own granted is.input (has_ports setups (parts a join.input) parted_now.sound) ∙ parts_desk a join.input;
          }

  pub releases_input_holds : (a : Acted) (input : End) → on_input a.controller.desk input ≡ false → Holds setups a → Released a (releases_input a input)
  releases_input_holds a input free h = by_join (join_of a.controller input)
      (λ join e. find_every (IsJoin setups a) (λ (join : Join). same_end join.input input) (joins_of a.controller) join (joins_are setups a (has_ports setups a h.sound)) e)
      (λ join e. same_end_is join.input input (find_passes (λ (join : Join). same_end join.input input) (joins_of a.controller) join e))
    where
      by_join : (o : Option Join) → ((join : Join) → o ≡ Some join → IsJoin setups a join) → ((join : Join) → o ≡ Some join → join.input ≡ input) → Released a (releases_join a o)
      by_join None is on = record { holds = h; desk = refl }
      by_join (Some join) is on = releases_join_holds a join (is join refl) (ap (λ (x : End). on_input a.controller.desk x) (on join refl) ∙ free) h

  released_each : (inputs : List End) (a : Acted) → Every (λ (input : End). on_input a.controller.desk input ≡ false) inputs → Holds setups a → Released a (fold releases_input a inputs)
  released_each [] a free h = record { holds = h; desk = refl }
  released_each (input ∷ inputs) a free h =
      let one : Released a (releases_input a input) = releases_input_holds a input free.0 h in
      let rest : Released (releases_input a input) (fold releases_input (releases_input a input) inputs) = released_each inputs (releases_input a input)
      (every_map (λ (x : End). on_input a.controller.desk x ≡ false) (λ (x : End). on_input (releases_input a input).controller.desk x ≡ false) inputs (λ x e. ap (λ (d : Desk). on_input d x) one.desk ∙ e) free.1) one.holds in
      record { holds = rest.holds; desk = rest.desk ∙ one.desk }

  pub spent_holds : (a : Acted) (port : PortNo) → Holds setups a → Holds setups (resets_spent a port)
  spent_holds a port h = at_port_holds setups a port (λ setup desk w. halts_if_spent w) (λ linked found. steps_to (steps_of.closing (begins a linked))) h

  spent_each : (ports : List PortNo) (a : Acted) → Holds setups a → Holds setups (fold resets_spent a ports)
  spent_each [] a h = h
  spent_each (port ∷ ports) a h = spent_each ports (resets_spent a port) (spent_holds a port h)

  -- an answer frees the inputs that its request led home
  abbrev pub IsFree : Acted → Request → Type 0
  IsFree a request = (input : End) → IsLabelEnd setups input → leads_home input (home_of input) request ≡ true → on_input a.controller.desk input ≡ false

  pub releases_holds : (a : Acted) (request : Request) → IsFree a request → Holds setups a → Holds setups (releases a request)
  releases_holds a request free h =
      let inputs : List End = released_inputs a.controller request in
      let has : HasPorts setups a = has_ports setups a h.sound in
      let ends : Every (IsLabelEnd setups) inputs = every_filter (IsLabelEnd setups) (λ (input : End). leads_home input (home_of input) request) (map (λ (join : Join). join.input) (joins_of a.controller))
      (every_mapped (λ (join : Join). join.input) (IsLabelEnd setups) (joins_of a.controller) (every_map (IsJoin setups a) (λ (join : Join). IsLabelEnd setups join.input) (joins_of a.controller) (λ join is. join_input setups a join has is) (joins_are setups a has))) in
      let released : Released a (fold releases_input a inputs) = released_each inputs a
      (every_map2 (λ (input : End). leads_home input (home_of input) request ≡ true) (IsLabelEnd setups) (λ (input : End). on_input a.controller.desk input ≡ false) inputs (λ input led end. free input end led)
      (filter_passes (λ (input : End). leads_home input (home_of input) request) (map (λ (join : Join). join.input) (joins_of a.controller))) ends) h in
      spent_each (ports_of (fold releases_input a inputs).controller) (fold releases_input a inputs) released.holds
