-- A release ends the join of its input, and no other.

use Rattle.std.proofs.Common.{◌≡◌, ℕ, Bool, true, false, not, List, [], ◌∷◌, ◌++◌, map, filter, find, fold, Option, Some, None, refl, sym, ap, subst, ◌∙◌, if◌then◌else◌}
use Rattle.std.specs.Prelude.{◌+◌, ◌==◌, flat_map, nat_lt}
use Rattle.std.specs.List.{filter_map, cons_option}
use Rattle.std.specs.Option.{option_map}
use Rattle.net_types.specs.declared.node.PortNo.{PortNo}
use Rattle.net_types.specs.declared.channel.End.{End}
use Rattle.net_types.specs.Label.{label_channel_of, number_of_channel}
use Rattle.ordered_lists.specs.Ordered.{Every, InOrder}
use Rattle.ordered_lists.proofs.Every.{every_join}
use Rattle.keyed_lists.specs.Keyed.{at, put, without, in_order}
use Rattle.crossbar_model.specs.Crossbar.{same_end}
use Rattle.branch_desk.proofs.Ends.{end_from_same, same_itself}
use Rattle.port_model.specs.declared.action.Action.{Action}
use Rattle.port_model.specs.declared.action.Action.TheVariants.{Say}
use Rattle.port_model.specs.Grants.{Grant, GrantState, Idle, ByController, ByInput, Leaving, grant_label, lent_input}
use Rattle.port_model.specs.Joins.{ended, given_back, given_back_in, joins_label, parted}
use Rattle.port_model.specs.Labels.{Label}
use Rattle.ifmp_wire.specs.declared.message.Message.{Message}
use Rattle.port_model.specs.Port.{Session, Work, with_action, label_at, without_grant}
use Rattle.port_model.specs.Saying.{Unnumbered, last_number, with_number, own_instance, peer_instance, reclaim_ack, spent_number, tells_in}
use Rattle.controller_joins.specs.world_model.Controller.{Acted, Controller, Linked, linked_at, note, port_key, ports_of}
use Rattle.controller_joins.specs.world_model.Joins.{Join, end_le, gives_back, join_of, join_to, joins_at, joins_of, parts}
use Rattle.controller_joins.specs.world_model.Performing.{Rule, performs_in_estab, works}
use Rattle.controller_joins.specs.world_model.Resets.{begins, with_work}
use Rattle.link_model.specs.declared.record.Record.TheVariants.{Part}
use Rattle.controller_joins.specs.Joined.{joined_of}
use Rattle.controller_joins.specs.declared.places.Joined.{Joined}
use Rattle.law_join_facts.specs.Joins.{joined_at, joined_in}
use Rattle.law_join_facts.proofs.Ordered.{each_ordered, filter_first, filter_not, on_both, on_each}
use Rattle.law_join_facts.proofs.Comes.{Apart, OneMore, goes, is_for, is_other, le, same_turned}
use Rattle.law_join_facts.proofs.Splits.{AreApart, map_put}
use Rattle.law_join_facts.proofs.Lents.{lent_ends, lent_goes, lents, lents_are}
use Rattle.law_join_facts.proofs.Flat.{all_joined, joined_is, put_fewer}
use Rattle.law_join_facts.proofs.Lasts.{Says, Stays, all_say, own, stands, stays_onward, stays_placed, stays_still}

-- *The join of an input*
find_mapped : {A B : Type 0} (f : A → B) (p : B → Bool) (xs : List A) → option_map f (find (λ x. p (f x)) xs) ≡ find p (map f xs)
find_mapped f p [] = refl
find_mapped f p (x ∷ xs) = by (p (f x)) (find_mapped f p xs) where
  by : (b : Bool) → option_map f (find (λ x. p (f x)) xs) ≡ find p (map f xs) → option_map f (if b then Some x else find (λ x. p (f x)) xs) ≡ (if b then Some (f x) else find p (map f xs))
  by true rest = refl
  by false rest = rest

pub joined_found : (c : Controller) (input : End) → option_map joined_of (join_of c input) ≡ find (is_for input) (joined_in c)
joined_found c input = find_mapped joined_of (is_for input) (joins_of c)

find_every : {A : Type 0} (P : A → Type 0) (test : A → Bool) (xs : List A) (x : A) → Every P xs → find test xs ≡ Some x → P x × (test x ≡ true)
find_every P test [] x h e = absurd (cc e)
find_every P test (y ∷ xs) x h e = by (test y) refl e (λ rest. find_every P test xs x h.1 rest) where
  by : (b : Bool) → test y ≡ b → (if b then Some y else find test xs) ≡ Some x → (find test xs ≡ Some x → P x × (test x ≡ true)) → P x × (test x ≡ true)
  by true t e others = (let same : y ≡ x = cc e in (subst P same h.0, subst (λ z. test z ≡ true) same t))
  by false t e others = others e

abbrev IsLent : Join → Type 0
IsLent join = lent_input join.grant.state ≡ Some join.input

lent_each : (port : PortNo) (grants : List Grant) → Every IsLent (filter_map (join_to port) grants)
lent_each port [] = tt
lent_each port (grant ∷ grants) = by (lent_input grant.state) refl (lent_each port grants) where
  by : (o : Option End) → lent_input grant.state ≡ o → Every IsLent (filter_map (join_to port) grants)
      → Every IsLent (cons_option (option_map (λ (e : End). record { input = e; port = port; grant = grant }) o) (filter_map (join_to port) grants))
  by None is rest = rest
  by (Some e) is rest = (is, rest)

every_flat : {A B : Type 0} (P : B → Type 0) (f : A → List B) (xs : List A) → ((x : A) → Every P (f x)) → Every P (flat_map f xs)
every_flat P f [] h = tt
every_flat P f (x ∷ xs) h = every_join P (f x) (flat_map f xs) (h x) (every_flat P f xs h)

pub record IsFound (join : Join) (input : End) : Type 0 where
  pub lent : lent_input join.grant.state ≡ Some join.input
  pub own : join.input ≡ input

pub is_found : (c : Controller) (input : End) (join : Join) → join_of c input ≡ Some join → IsFound join input
is_found c input join found =
    let all : Every IsLent (joins_of c) = each_ordered (λ (a b : Join). end_le a.input b.input) IsLent (flat_map joins_at c.ports) (every_flat IsLent joins_at c.ports (λ l. lent_each l.setup.port l.port.grants)) in
    let both = find_every IsLent (λ (j : Join). same_end j.input input) (joins_of c) join all found in
    record { lent = both.0; own = end_from_same join.input input both.1 }

-- *A label is parted*: the grants stay, and nothing is asked
pub parts_stays : (a : Acted) (input : End) → Stays a (parts a input)
parts_stays a input =
    let number : ℕ = number_of_channel input.channel in
    let b : Acted = note a (Part a.controller.node input.port number) in
    stays_onward a b (parts a input) (stays_still a b refl refl) (at_found b number (linked_at b.controller input.port) refl)
  where
    at_label : (b : Acted) (linked : Linked) (number : ℕ) (found : linked_at b.controller input.port ≡ Some linked) (o : Option Label) → label_at linked.port number ≡ o → Stays b (works b (λ setup desk w. joins_label w None o) (Some linked))
    at_label b linked number found None is = stays_placed b _ linked _ (own b input.port linked found) refl refl refl refl
    at_label b linked number found (Some label) is = stays_placed b _ linked _ (own b input.port linked found) refl refl refl refl

    at_found : (b : Acted) (number : ℕ) (o : Option Linked) → linked_at b.controller input.port ≡ o → Stays b (works b (λ setup desk w. parted w number) o)
    at_found b number None found = stays_still b b refl refl
    at_found b number (Some linked) found = at_label b linked number found (label_at linked.port number) refl

-- *A grant is given back*
pub record OneOf (fewer more : List Joined) (input : End) : Type 0 where
  pub join : Joined
  pub own : join.input ≡ input
  pub one : OneMore fewer more join

record Gives (linked : Linked) (input : End) (w : Work) : Type 0 where
  says : Every Says w.actions
  fewer : OneOf (joined_at (record linked { port = w.port })) (joined_at linked) input

pub more_as : (fewer more fewer' more' : List Joined) (join : Joined) → fewer' ≡ fewer → more' ≡ more → OneMore fewer more join → OneMore fewer' more' join
more_as fewer more fewer' more' join p q m = record { front = m.front; back = m.back; fewer_is = p ∙ m.fewer_is; more_is = q ∙ m.more_is }

-- what is told keeps the grants
record Told (v w : Work) : Type 0 where
  grants : w.port.grants ≡ v.port.grants
  says : Every Says v.actions → Every Says w.actions

more_says : (actions : List Action) (action : Action) → Every Says actions → Says action → Every Says (actions ++ action ∷ [])
more_says [] action says one = (one, tt)
more_says (x ∷ actions) action says one = (says.0, more_says actions action says.1 one)

tells_told : (v : Work) (message : Unnumbered) (o : Option Session) → Told v (tells_in v message o)
tells_told v message None = record { grants = refl; says = λ h. h }
tells_told v message (Some s) = on_each (Told v) (nat_lt s.number last_number) (with_action (with_number (s.number + 1) v) (Say (message (own_instance v.port.adjacency) (peer_instance v.port.adjacency) s.number))) (with_number spent_number v)
    (λ t. acted (with_number (s.number + 1) v) (message (own_instance v.port.adjacency) (peer_instance v.port.adjacency) s.number) (number_told v (s.number + 1)))
    (λ f. number_told v spent_number)
  where
    number_told : (v : Work) (n : ℕ) → Told v (with_number n v)
    number_told v n = on_both (Told v) v.halted v (record v { port = record v.port { session = option_map (λ (x : Session). record x { number = n }) v.port.session } }) (record { grants = refl; says = λ h. h }) (record { grants = refl; says = λ h. h })

    acted : (u : Work) (message : Message) → Told v u → Told v (with_action u (Say message))
    acted u message t = on_both (Told v) u.halted u (record u { actions = u.actions ++ Say message ∷ [] }) t (record { grants = t.grants; says = λ h. more_says u.actions (Say message) (t.says h) tt })

gives_of : (a : Acted) (linked : Linked) (grant : Grant) (input : End) (state : GrantState) → grant.state ≡ state → at grant_label grant.label linked.port.grants ≡ Some grant → AreApart grant_label linked.port.grants → lent_input grant.state ≡ Some input
    → Gives linked input (given_back_in (begins a linked) grant state)
gives_of a linked grant input Idle is found apart lent = absurd (cc (sym (ap lent_input is) ∙ lent))
gives_of a linked grant input ByController is found apart lent = absurd (cc (sym (ap lent_input is) ∙ lent))
gives_of a linked grant input (ByInput e) is found apart lent = record {
  says = tt;
  fewer = record {
    join = record { input = input; port = linked.setup.port; label = grant.label };
    own = refl;
    one = more_as _ _ _ _ _ (lents_are linked.setup.port (put grant_label (record grant { state = ByController }) linked.port.grants)) (lents_are linked.setup.port linked.port.grants)
        (lent_goes linked.setup.port grant.label linked.port.grants grant input ByController found lent refl);
  };
}
gives_of a linked grant input (Leaving e owed) is found apart lent = by owed where
  left : Work
  left = without_grant (begins a linked) grant.label

  one : (w : Work) → w.port.grants ≡ without grant_label grant.label linked.port.grants → OneOf (joined_at (record linked { port = w.port })) (joined_at linked) input
  one w same = record {
    join = record { input = input; port = linked.setup.port; label = grant.label };
    own = refl;
    one = more_as _ _ _ _ _ (lents_are linked.setup.port w.port.grants ∙ ap (lents linked.setup.port) same) (lents_are linked.setup.port linked.port.grants)
        (lent_ends linked.setup.port grant.label linked.port.grants grant input apart found lent);
  }

  by : (owed : Bool) → Gives linked input (ended (begins a linked) grant owed)
  by true = (let t = tells_told left (reclaim_ack (label_channel_of grant.label) grant.flow) left.port.session in record { says = t.says tt; fewer = one (tells_in left (reclaim_ack (label_channel_of grant.label) grant.flow) left.port.session) t.grants })
  by false = record { says = tt; fewer = one left refl }

pub record Released (a b : Acted) (input : End) : Type 0 where
  pub ports : ports_of b.controller ≡ ports_of a.controller
  pub estab : stands b ≡ stands a
  pub joined : joined_in b.controller ≡ filter (is_other input) (joined_in a.controller)

-- the grant is the one of its label at its port, and no two there are of one label
pub record IsHeld (c : Controller) (join : Join) : Type 0 where
  pub linked : Linked
  pub found : linked_at c join.port ≡ Some linked
  pub granted : at grant_label join.grant.label linked.port.grants ≡ Some join.grant
  pub apart : AreApart grant_label linked.port.grants

gives_back_ends : (b : Acted) (join : Join) (input : End) → IsHeld b.controller join → lent_input join.grant.state ≡ Some input → InOrder Apart (joined_in b.controller) → Released b (gives_back b join) input
gives_back_ends b join input held lent apart =
    let rule : Rule = λ setup desk w. given_back w join.grant in
    let w : Work = given_back (begins b held.linked) join.grant in
    let gives = gives_of b held.linked join.grant input join.grant.state refl held.granted held.apart lent in
    let after : Linked = record held.linked { port = w.port } in
    let v : Acted = with_work b held.linked w in
    let found = own b join.port held.linked held.found in
    let one = put_fewer after b.controller.ports held.linked gives.fewer.join found gives.fewer.one in
    let first : joined_in v.controller ≡ filter (is_other input) (joined_in b.controller) =
    joined_is v.controller ∙ goes (all_joined v.controller.ports) (all_joined b.controller.ports) gives.fewer.join one (subst (InOrder Apart) (joined_is b.controller) apart)
    ∙ (λ i. filter (is_other (gives.fewer.own i)) (sym (joined_is b.controller) i)) in
    let rest = all_say held.linked.setup.port w.actions v gives.says in
    let is : gives_back b join ≡ fold (performs_in_estab held.linked.setup.port) v w.actions = ap (works b rule) held.found in
    subst (λ (x : Acted). Released b x input) (sym is)
    (record {
      ports = rest.ports ∙ map_put port_key (λ (l : Linked). l.setup.port) after b.controller.ports held.linked found refl;
      estab = rest.steady.estab;
      joined = joined_is (fold (performs_in_estab held.linked.setup.port) v w.actions).controller ∙ ap (in_order le) rest.steady.joined ∙ sym (joined_is v.controller) ∙ first;
    })

pub release_ends : (a : Acted) (join : Join) → IsHeld (parts a join.input).controller join → lent_input join.grant.state ≡ Some join.input → InOrder Apart (joined_in a.controller) → Released a (gives_back (parts a join.input) join) join.input
release_ends a join held lent apart =
    let b : Acted = parts a join.input in
    let s = parts_stays a join.input in
    let same : joined_in b.controller ≡ joined_in a.controller = joined_is b.controller ∙ ap (in_order le) s.steady.joined ∙ sym (joined_is a.controller) in
    let r = gives_back_ends b join join.input held lent (subst (InOrder Apart) (sym same) apart) in
    record { ports = r.ports ∙ s.ports; estab = r.estab ∙ s.steady.estab; joined = r.joined ∙ ap (filter (is_other join.input)) same }

-- *The inputs that a request leads home*
pub none_pass : {A : Type 0} (p : A → Bool) (xs : List A) → ((x : A) → p x ≡ false) → filter p xs ≡ []
none_pass p [] h = refl
none_pass p (x ∷ xs) h = filter_not p x xs (h x) ∙ none_pass p xs h

abbrev pub inputs_of : List Joined → List End
inputs_of joins = map (λ (j : Joined). j.input) joins

pub inputs_are : (js : List Join) → map (λ (j : Join). j.input) js ≡ inputs_of (map joined_of js)
inputs_are [] = refl
inputs_are (j ∷ js) = ap (λ es. j.input ∷ es) (inputs_are js)

-- that of one input alone
pub one_passes : (p : End → Bool) (input : End) (joins : List Joined) (join : Joined) → ((e : End) → same_end e input ≡ false → p e ≡ false) → p input ≡ true → InOrder Apart joins → find (is_for input) joins ≡ Some join → filter p (inputs_of joins) ≡ input ∷ []
one_passes p input [] join others here apart found = absurd (cc found)
one_passes p input (j ∷ joins) join others here apart found = by (is_for input j) refl found (λ f rest. filter_not p j.input (inputs_of joins) (others j.input f) ∙ one_passes p input joins join others here apart.1 rest) where
  off : (xs : List Joined) → j.input ≡ input → Every (Apart j) xs → filter p (inputs_of xs) ≡ []
  off [] same h = refl
  off (x ∷ xs) same h = filter_not p x.input (inputs_of xs) (others x.input (same_turned x.input input ∙ ap (λ (e : End). same_end e x.input) (sym same) ∙ h.0)) ∙ off xs same h.1

  by : (b : Bool) → is_for input j ≡ b → (if b then Some j else find (is_for input) joins) ≡ Some join → (is_for input j ≡ false → find (is_for input) joins ≡ Some join → filter p (inputs_of (j ∷ joins)) ≡ input ∷ []) → filter p (inputs_of (j ∷ joins)) ≡ input ∷ []
  by true t e rest =
      (let same : j.input ≡ input = end_from_same j.input input t in
      filter_first p j.input (inputs_of joins) (ap p same ∙ here) ∙ (λ i. same i ∷ off joins same apart.0 i))
  by false f e rest = rest f e

pub none_passes : (p : End → Bool) (input : End) (joins : List Joined) → ((e : End) → same_end e input ≡ false → p e ≡ false) → find (is_for input) joins ≡ None → filter p (inputs_of joins) ≡ []
none_passes p input [] others none = refl
none_passes p input (j ∷ joins) others none = by (is_for input j) refl none (λ f rest. filter_not p j.input (inputs_of joins) (others j.input f) ∙ none_passes p input joins others rest) where
  by : (b : Bool) → is_for input j ≡ b → (if b then Some j else find (is_for input) joins) ≡ None → (is_for input j ≡ false → find (is_for input) joins ≡ None → filter p (inputs_of (j ∷ joins)) ≡ []) → filter p (inputs_of (j ∷ joins)) ≡ []
  by true t e rest = absurd (cc e)
  by false f e rest = rest f e

-- those of a port: the first one, and those of the others
abbrev pub on_port : PortNo → Joined → Bool
on_port port j = j.input.port.0 == port.0

pub first_passes : (p : End → Bool) (port : PortNo) (joins : List Joined) (join : Joined) → ((j : Joined) → p j.input ≡ on_port port j) → InOrder Apart joins → find (on_port port) joins ≡ Some join
    → filter p (inputs_of joins) ≡ join.input ∷ filter p (inputs_of (filter (is_other join.input) joins))
first_passes p port [] join is apart found = absurd (cc found)
first_passes p port (j ∷ joins) join is apart found = by (on_port port j) refl found (λ rest. first_passes p port joins join is apart.1 rest) where
  kept : (xs : List Joined) → Every (Apart j) xs → filter (is_other j.input) xs ≡ xs
  kept [] h = refl
  kept (x ∷ xs) h = filter_first (is_other j.input) x xs (ap not (same_turned x.input j.input ∙ h.0)) ∙ ap (λ ys. x ∷ ys) (kept xs h.1)

  skip : (b : Bool) → p j.input ≡ false → filter p (inputs_of (if b then j ∷ filter (is_other join.input) joins else filter (is_other join.input) joins)) ≡ filter p (inputs_of (filter (is_other join.input) joins))
  skip true f = filter_not p j.input (inputs_of (filter (is_other join.input) joins)) f
  skip false f = refl

  by : (b : Bool) → on_port port j ≡ b → (if b then Some j else find (on_port port) joins) ≡ Some join
      → (find (on_port port) joins ≡ Some join → filter p (inputs_of joins) ≡ join.input ∷ filter p (inputs_of (filter (is_other join.input) joins)))
      → filter p (inputs_of (j ∷ joins)) ≡ join.input ∷ filter p (inputs_of (filter (is_other join.input) (j ∷ joins)))
  by true t e rest =
      (let same : j ≡ join = cc e in
      let left : filter (is_other j.input) (j ∷ joins) ≡ joins = filter_not (is_other j.input) j joins (ap not (same_itself j.input)) ∙ kept joins apart.0 in
      subst (λ (x : Joined). filter p (inputs_of (j ∷ joins)) ≡ x.input ∷ filter p (inputs_of (filter (is_other x.input) (j ∷ joins)))) same
      (filter_first p j.input (inputs_of joins) (is j ∙ t) ∙ ap (λ xs. j.input ∷ filter p (inputs_of xs)) (sym left)))
  by false f e rest = filter_not p j.input (inputs_of joins) (is j ∙ f) ∙ rest e ∙ ap (λ es. join.input ∷ es) (sym (skip (is_other join.input j) (is j ∙ f)))

pub no_one_passes : (p : End → Bool) (port : PortNo) (joins : List Joined) → ((j : Joined) → p j.input ≡ on_port port j) → find (on_port port) joins ≡ None → filter p (inputs_of joins) ≡ []
no_one_passes p port [] is none = refl
no_one_passes p port (j ∷ joins) is none = by (on_port port j) refl none (λ f rest. filter_not p j.input (inputs_of joins) (is j ∙ f) ∙ no_one_passes p port joins is rest) where
  by : (b : Bool) → on_port port j ≡ b → (if b then Some j else find (on_port port) joins) ≡ None → (on_port port j ≡ false → find (on_port port) joins ≡ None → filter p (inputs_of (j ∷ joins)) ≡ []) → filter p (inputs_of (j ∷ joins)) ≡ []
  by true t e rest = absurd (cc e)
  by false f e rest = rest f e
