-- what was so before an event is so behind it

use Rattle.std.proofs.Common.{◌≡◌, ◌≢◌, ℕ, ◌≤◌, ◌<◌, ◌⊎◌, zero, suc, Bool, true, false, true≢false, List, [], ◌∷◌, ◌++◌, map, filter, length, Option, None, Some, inl, inr, refl, sym, ◌∙◌, ap, subst, arith, slice_index_or, if◌then◌else◌}
use Rattle.std.specs.Prelude.{◌==◌, ◌||◌, Contains}
use Rattle.std.specs.List.{list_any}
use Rattle.std.specs.Option.{option_and_then, option_map, option_map_or}
use Rattle.std.proofs.lemmas.Bool.Decides.{nat_tests}
use Rattle.law_branch_shapes.specs.world_model.Words.{NodeId, PortNo, Down, Up, Mark, Cell, queue_of, Request, AddBranch, MoveBranch, DeleteTree, VerifyTree, PortManagement, PortRow, Frame, payload_of, Standing, all_on, is_delete_all, control_port, Setup, Controller, Linked, default_channel, same_channel, World, Site, site_at, queue_in, queue_at, gsmp_of, gsmp_under, copy_of, copy_under, on_channel, requests_chain_at, answers_chain_at}
use Rattle.law_branch_shapes.specs.world_model.gsmp_wire.declared.message.Message.{Message}
use Rattle.law_branch_shapes.specs.world_model.gsmp_wire.declared.message.Message.TheVariants as messages
use Rattle.law_branch_shapes.specs.world_model.gsmp_wire.declared.request.Request.TheVariants.{DeleteAll, AllPorts}
use Rattle.law_frame_readings.specs.ordered_lists.Ordered.{Every}
use Rattle.law_frame_readings.specs.law_port_facts.Port.{IsShaped}
use Rattle.law_branch_shapes.specs.world_model.Controller.{ports_of}
use Rattle.law_frame_readings.specs.Reading.{MarksAreRead}
use Rattle.law_frame_readings.specs.law_world_views.Made.{AreMade}
use Rattle.law_frame_readings.specs.law_world_views.Between.{setups_of, HasShapes, HasPortsUp, HasNumbers}
use Rattle.law_running_worlds.specs.Mode.{AreUp, Told, Untold, IsMild, IsMildStanding}
use Rattle.law_running_worlds.specs.New.{control_mark, AsksShaped, TellsUp, IsNew}
use Rattle.law_running_worlds.proofs.Cells.{IsEither}
use Rattle.law_running_worlds.specs.Left.{OldAsks, OldTells, port_list, Left, IsKnown, known, IsLeft}
use Rattle.law_running_worlds.proofs.Lists.{every_among, among_right, among_filter, among_tail}
use Rattle.law_branch_shapes.proofs.law_causes.Parts.{zero_is}

-- *Lists*
module _ {A : Type 0} where
  pub every_of : (P : A → Type 0) (xs : List A) → ((x : A) → Contains xs x → P x) → Every P xs
  every_of P [] each = tt
  every_of P (x ∷ xs) each = (each x (0, omega arith, refl), every_of P xs (λ y c. each y (among_tail x xs y c)))

  among_left : (xs ys : List A) (x : A) → Contains xs x → Contains (xs ++ ys) x
  among_left xs ys x c = at_place xs c.0 c.1 c.2
    where
      at_place : (zs : List A) (k : ℕ) → k < length zs → slice_index_or zs k x ≡ x → Contains (zs ++ ys) x
      at_place [] k low e = absurd (omega (arith, low))
      at_place (z ∷ zs) zero low e = (0, omega arith, e)
      at_place (z ∷ zs) (suc k) low e = among_tail z (zs ++ ys) x (at_place zs k (omega (arith, low)) e)

  among_split : (xs ys : List A) (x : A) → Contains (xs ++ ys) x → Contains xs x ⊎ Contains ys x
  among_split [] ys x c = inr c
  among_split (z ∷ xs) ys x c = at_place (λ d. among_split xs ys x d) c.0 c.1 c.2
    where
      at_place : (Contains (xs ++ ys) x → Contains xs x ⊎ Contains ys x) → (k : ℕ) → k < length ((z ∷ xs) ++ ys) → slice_index_or ((z ∷ xs) ++ ys) k x ≡ x → Contains (z ∷ xs) x ⊎ Contains ys x
      at_place rest zero low e = inl (0, omega arith, e)
      at_place rest (suc k) low e = elim (rest (k, omega (arith, low), e)) as (λ w. Contains (z ∷ xs) x ⊎ Contains ys x) [
        | inl there ↦ inl (among_tail z xs x there)
        | inr there ↦ inr there
      ]

  among_back : (test : A → Bool) (xs : List A) (x : A) → Contains (filter test xs) x → Contains xs x × (test x ≡ true)
  among_back test [] x c = absurd (omega (arith, c.1))
  among_back test (z ∷ xs) x c = by (λ d. among_back test xs x d) (test z) refl c
    where
      later : (Contains (filter test xs) x → Contains xs x × (test x ≡ true)) → Contains (filter test xs) x → Contains (z ∷ xs) x × (test x ≡ true)
      later rest k = (let r = rest k in (among_tail z xs x r.0, r.1))

      at_place : (Contains (filter test xs) x → Contains xs x × (test x ≡ true)) → test z ≡ true → (n : ℕ) → n < length (z ∷ filter test xs) → slice_index_or (z ∷ filter test xs) n x ≡ x → Contains (z ∷ xs) x × (test x ≡ true)
      at_place rest e zero low is = ((0, omega arith, is), subst (λ (y : A). test y ≡ true) is e)
      at_place rest e (suc n) low is = later rest (n, omega (arith, low), is)

      by : (Contains (filter test xs) x → Contains xs x × (test x ≡ true)) → (b : Bool) → test z ≡ b → Contains (if b then z ∷ filter test xs else filter test xs) x → Contains (z ∷ xs) x × (test x ≡ true)
      by rest false e k = later rest k
      by rest true e k = at_place rest e k.0 k.1 k.2

-- *Marks*
mark_is : (mark : Mark) → mark.packet ≡ 0 → mark ≡ control_mark mark.frame
mark_is mark e = ap (λ (n : ℕ). record { packet = n; frame = mark.frame }) e

isnt_zero : (n : ℕ) → (n == 0) ≡ false → n ≢ 0
isnt_zero n e z = by_test (subst (λ (m : ℕ). (m == 0) ≡ false) z e)
  where
    by_test : (0 == 0) ≡ false → ⊥
    by_test k = cc k

module _ (read : MarksAreRead) (began frames : List Frame) (marks : ℕ) (made : AreMade frames) (same : (k : ℕ) → k ≤ marks → payload_of frames (control_mark k) ≡ payload_of began (control_mark k)) where
  -- *Under an old mark* the same is read
  old_gsmp : (mark : Mark) (m : Message) → (mark.packet ≡ 0 → mark.frame ≤ marks) → gsmp_under frames mark ≡ Some m → gsmp_under began mark ≡ Some m
  old_gsmp mark m low under = by (mark.packet == 0) refl
    where
      by : (b : Bool) → (mark.packet == 0) ≡ b → gsmp_under began mark ≡ Some m
      by true e =
          let zero : mark.packet ≡ 0 = zero_is mark.packet e in
          subst (λ (x : Mark). gsmp_under began x ≡ Some m) (sym (mark_is mark zero))
          (ap (option_and_then gsmp_of) (sym (same mark.frame (low zero))) ∙ subst (λ (x : Mark). gsmp_under frames x ≡ Some m) (mark_is mark zero) under)
      by false e = absurd (cc (sym (read.no_gsmp frames mark made (isnt_zero mark.packet e)) ∙ under))

  old_copy : (mark : Mark) (s : Standing) → (mark.packet ≡ 0 → mark.frame ≤ marks) → copy_under frames mark ≡ Some s → copy_under began mark ≡ Some s
  old_copy mark s low copy = by (gsmp_under frames mark) refl copy
    where
      by : (o : Option Message) → gsmp_under frames mark ≡ o → option_and_then copy_of o ≡ Some s → copy_under began mark ≡ Some s
      by None under e = absurd (cc e)
      by (Some m) under e = ap (option_and_then copy_of) (old_gsmp mark m low under) ∙ e

  module _ (controls : ℕ) (setups : List Setup) (site : Site) (h : Left began marks frames controls setups site) where
    old_shaped : (cell : Cell) → OldAsks setups began marks cell → (s : Standing) → copy_under frames cell.mark ≡ Some s → IsShaped setups s.request
    old_shaped cell o s copy = o.asks s (old_copy cell.mark s o.low copy)

    new_shaped : (cell : Cell) → IsNew (AsksShaped setups) frames controls cell → (s : Standing) → copy_under frames cell.mark ≡ Some s → IsShaped setups s.request
    new_shaped cell n s copy = n.good s (ap (λ (o : Option (List ℕ)). option_and_then copy_of (option_and_then gsmp_of o)) (sym n.made) ∙ subst (λ (x : Mark). copy_under frames x ≡ Some s) n.is copy)

    pub shaped : (s : Standing) (cell : Cell) → Contains (site.switch.reassembly.chain ++ on_channel default_channel site.controller.queue) cell → copy_under frames cell.mark ≡ Some s → IsShaped setups s.request
    shaped s cell among copy = elim (among_split site.switch.reassembly.chain (on_channel default_channel site.controller.queue) cell among) [
      | inl there ↦ old_shaped cell (every_among (OldAsks setups began marks) site.switch.reassembly.chain cell h.chain there) s copy
      | inr there ↦ waiting (among_back (λ (x : Cell). same_channel x.header.channel default_channel) site.controller.queue cell there)
    ]
      where
        waiting : Contains site.controller.queue cell × (same_channel cell.header.channel default_channel ≡ true) → IsShaped setups s.request
        waiting w = elim (every_among (IsEither (OldAsks setups began marks) (AsksShaped setups) began marks frames controls) site.controller.queue cell h.to_switch.cells w.0 w.1) [
          | inl o ↦ old_shaped cell o s copy
          | inr n ↦ new_shaped cell n s copy
        ]

    old_told : (cell : Cell) → OldTells (port_list setups) began marks cell → (code number : ℕ) (rows : List PortRow) → gsmp_under frames cell.mark ≡ Some (messages.AllPorts 3 code number rows) → AreUp rows (port_list setups)
    old_told cell o code number rows under = o.tells code number rows (old_gsmp cell.mark (messages.AllPorts 3 code number rows) o.low under)

    new_told : (cell : Cell) → IsNew (TellsUp (port_list setups)) frames controls cell → (code number : ℕ) (rows : List PortRow) → gsmp_under frames cell.mark ≡ Some (messages.AllPorts 3 code number rows) → AreUp rows (port_list setups)
    new_told cell n code number rows under = n.good code number rows (ap (λ (o : Option (List ℕ)). option_and_then gsmp_of o) (sym n.made) ∙ subst (λ (x : Mark). gsmp_under frames x ≡ Some (messages.AllPorts 3 code number rows)) n.is under)

    pub told_up : (cell : Cell) (code number : ℕ) (rows : List PortRow) → Contains (site.controller.reassembly.chain ++ on_channel default_channel (queue_of site.switch.crossbar control_port)) cell
        → gsmp_under frames cell.mark ≡ Some (messages.AllPorts 3 code number rows) → AreUp rows (port_list setups)
    told_up cell code number rows among under = elim (among_split site.controller.reassembly.chain (on_channel default_channel (queue_of site.switch.crossbar control_port)) cell among) [
      | inl there ↦ old_told cell (every_among (OldTells (port_list setups) began marks) site.controller.reassembly.chain cell h.gathered there) code number rows under
      | inr there ↦ waiting (among_back (λ (x : Cell). same_channel x.header.channel default_channel) (queue_of site.switch.crossbar control_port) cell there)
    ]
      where
        waiting : Contains (queue_of site.switch.crossbar control_port) cell × (same_channel cell.header.channel default_channel ≡ true) → AreUp rows (port_list setups)
        waiting w = elim (every_among (IsEither (OldTells (port_list setups) began marks) (TellsUp (port_list setups)) began marks frames controls) (queue_of site.switch.crossbar control_port) cell h.to_controller.cells w.0 w.1) [
          | inl o ↦ old_told cell o code number rows under
          | inr n ↦ new_told cell n code number rows under
        ]

-- *What a controller knows*
none_deleted : (port : PortNo) (standing : List Standing) → Every IsMildStanding standing → list_any (λ (s : Standing). is_delete_all port s.request) standing ≡ false
none_deleted port [] all = refl
none_deleted port (s ∷ standing) all = by (is_delete_all port s.request) (mild s.request all.0) (none_deleted port standing all.1)
  where
    mild : (r : Request) → IsMild r → is_delete_all port r ≡ false
    mild (AddBranch i o) k = refl
    mild (MoveBranch i from to) k = refl
    mild (DeleteTree i) k = refl
    mild (VerifyTree i) k = refl
    mild (DeleteAll p) k = absurd k
    mild (PortManagement p f) k = refl
    mild AllPorts k = refl

    by : (b : Bool) → b ≡ false → list_any (λ (x : Standing). is_delete_all port x.request) standing ≡ false → (b || list_any (λ (x : Standing). is_delete_all port x.request) standing) ≡ false
    by true e rest = absurd (cc e)
    by false e rest = rest

-- a Delete All stands, or none does
record Deletes (standing : List Standing) : Type 0 where
  port : PortNo
  stands : list_any (λ (s : Standing). is_delete_all port s.request) standing ≡ true

number_self : (n : ℕ) → (n == n) ≡ true
number_self n = grind (arith, nat_tests)

or_second : (b t : Bool) → t ≡ true → (b || t) ≡ true
or_second true t e = refl
or_second false t e = e

deletes_or_not : (standing : List Standing) → Deletes standing ⊎ Every IsMildStanding standing
deletes_or_not [] = inr tt
deletes_or_not (s ∷ standing) = by s.request refl (deletes_or_not standing)
  where
    later : (d : Deletes standing) → Deletes (s ∷ standing)
    later d = record { port = d.port; stands = or_second (is_delete_all d.port s.request) _ d.stands }

    rest : (r : Request) → s.request ≡ r → IsMild r → Deletes standing ⊎ Every IsMildStanding standing → Deletes (s ∷ standing) ⊎ Every IsMildStanding (s ∷ standing)
    rest r is mild (inl d) = inl (later d)
    rest r is mild (inr all) = inr (subst IsMild (sym is) mild, all)

    by : (r : Request) → s.request ≡ r → Deletes standing ⊎ Every IsMildStanding standing → Deletes (s ∷ standing) ⊎ Every IsMildStanding (s ∷ standing)
    by (DeleteAll port) is d = inl (record { port = port; stands = ap (λ (b : Bool). b || list_any (λ (x : Standing). is_delete_all port x.request) standing) (ap (is_delete_all port) is ∙ number_self port.0) })
    by (AddBranch i o) is d = rest (AddBranch i o) is tt d
    by (MoveBranch i from to) is d = rest (MoveBranch i from to) is tt d
    by (DeleteTree i) is d = rest (DeleteTree i) is tt d
    by (VerifyTree i) is d = rest (VerifyTree i) is tt d
    by (PortManagement p f) is d = rest (PortManagement p f) is tt d
    by AllPorts is d = rest AllPorts is tt d

pub listed : (c : Controller) → ports_of c ≡ port_list (setups_of c)
listed c = by c.ports
  where
    by : (ports : List Linked) → map (λ (linked : Linked). linked.setup.port) ports ≡ map (λ (setup : Setup). setup.port) (map (λ (linked : Linked). linked.setup) ports)
    by [] = refl
    by (x ∷ ports) = ap (λ (l : List PortNo). x.setup.port ∷ l) (by ports)

module _ (c : Controller) where
  pub known_from : (c.has_met ≡ true → AreUp c.desk.rows (ports_of c)) → ((port : PortNo) → all_on c.desk port ≡ true → AreUp c.desk.rows (ports_of c)) → IsKnown (setups_of c) c
  known_from met emptying = by c.has_met refl
    where
      up : AreUp c.desk.rows (ports_of c) → IsKnown (setups_of c) c
      up h = known Told (subst (AreUp c.desk.rows) (listed c) h)

      by : (b : Bool) → c.has_met ≡ b → IsKnown (setups_of c) c
      by true e = up (met e)
      by false e = elim (deletes_or_not c.desk.standing) [
        | inl d ↦ up (emptying d.port d.stands)
        | inr all ↦ known Untold (e, all)
      ]

  pub met_of : IsKnown (setups_of c) c → c.has_met ≡ true → AreUp c.desk.rows (ports_of c)
  met_of (known Told k) met = subst (AreUp c.desk.rows) (sym (listed c)) k
  met_of (known Untold k) met = absurd (true≢false (sym met ∙ k.0))

  pub emptying_of : IsKnown (setups_of c) c → (port : PortNo) → all_on c.desk port ≡ true → AreUp c.desk.rows (ports_of c)
  emptying_of (known Told k) port all = subst (AreUp c.desk.rows) (sym (listed c)) k
  emptying_of (known Untold k) port all = absurd (true≢false (sym all ∙ none_deleted port c.desk.standing k.1))

-- *Before the event* all cells are old
module _ (w : World) (node : NodeId) (site : Site) (found : site_at w node ≡ Some site) (numbers : HasNumbers w) (shapes : HasShapes w node site) (up : HasPortsUp w node site) where
  abbrev marks_now : ℕ
  marks_now = w.numbers.controls

  chain_is : requests_chain_at w node ≡ site.switch.reassembly.chain
  chain_is = ap (λ (o : Option Site). option_map_or (λ (x : Site). x.switch.reassembly.chain) o []) found

  gathered_is : answers_chain_at w node ≡ site.controller.reassembly.chain
  gathered_is = ap (λ (o : Option Site). option_map_or (λ (c : Controller). c.reassembly.chain) (option_map (λ (x : Site). x.controller) o) []) found

  down_is : queue_at w (Down node) ≡ site.controller.queue
  down_is = ap (λ (o : Option Site). option_map_or (λ (x : Site). queue_in x (Down node)) o []) found

  up_is : queue_at w (Up node) ≡ queue_of site.switch.crossbar control_port
  up_is = ap (λ (o : Option Site). option_map_or (λ (x : Site). queue_in x (Up node)) o []) found

  pub down_old : (cell : Cell) → same_channel cell.header.channel default_channel ≡ true → Contains site.controller.queue cell → OldAsks (setups_of site.controller) w.notes.frames w.numbers.controls cell
  down_old cell here among =
      let there : Contains (queue_at w (Down node)) cell = subst (λ (q : List Cell). Contains q cell) (sym down_is) among in
      record {
        low = λ e. numbers.marks (Down node) cell there e;
        asks = λ s copy. shapes.copies s cell (among_right (requests_chain_at w node) (on_channel default_channel (queue_at w (Down node))) cell (among_filter (λ (x : Cell). same_channel x.header.channel default_channel) (queue_at w (Down node)) cell here there)) copy;
      }

  pub up_old : (cell : Cell) → same_channel cell.header.channel default_channel ≡ true → Contains (queue_of site.switch.crossbar control_port) cell → OldTells (port_list (setups_of site.controller)) w.notes.frames w.numbers.controls cell
  up_old cell here among =
      let there : Contains (queue_at w (Up node)) cell = subst (λ (q : List Cell). Contains q cell) (sym up_is) among in
      record {
        low = λ e. numbers.marks (Up node) cell there e;
        tells = λ code number rows under. subst (AreUp rows) (listed site.controller)
            (up.told cell code number rows (among_right (answers_chain_at w node) (on_channel default_channel (queue_at w (Up node))) cell (among_filter (λ (x : Cell). same_channel x.header.channel default_channel) (queue_at w (Up node)) cell here there)) under);
      }

  chain_old : (cell : Cell) → Contains site.switch.reassembly.chain cell → OldAsks (setups_of site.controller) w.notes.frames w.numbers.controls cell
  chain_old cell among =
      let there : Contains (requests_chain_at w node) cell = subst (λ (q : List Cell). Contains q cell) (sym chain_is) among in
      record {
        low = λ e. numbers.chains node cell (among_left (requests_chain_at w node) (answers_chain_at w node) cell there) e;
        asks = λ s copy. shapes.copies s cell (among_left (requests_chain_at w node) (on_channel default_channel (queue_at w (Down node))) cell there) copy;
      }

  gathered_old : (cell : Cell) → Contains site.controller.reassembly.chain cell → OldTells (port_list (setups_of site.controller)) w.notes.frames w.numbers.controls cell
  gathered_old cell among =
      let there : Contains (answers_chain_at w node) cell = subst (λ (q : List Cell). Contains q cell) (sym gathered_is) among in
      record {
        low = λ e. numbers.chains node cell (among_right (requests_chain_at w node) (answers_chain_at w node) cell there) e;
        tells = λ code number rows under. subst (AreUp rows) (listed site.controller) (up.told cell code number rows (among_left (answers_chain_at w node) (on_channel default_channel (queue_at w (Up node))) cell there) under);
      }

  pub left_before : IsLeft w.notes.frames w.numbers.controls w.notes.frames w.numbers.controls site
  left_before = record {
    to_switch = record {
      given = omega arith;
      same = λ k low. refl;
      cells = every_of (IsEither (OldAsks (setups_of site.controller) w.notes.frames w.numbers.controls) (AsksShaped (setups_of site.controller)) w.notes.frames w.numbers.controls w.notes.frames w.numbers.controls) site.controller.queue (λ cell among on. inl (down_old cell on among));
    };
    chain = every_of (OldAsks (setups_of site.controller) w.notes.frames w.numbers.controls) site.switch.reassembly.chain chain_old;
    to_controller = record {
      given = omega arith;
      same = λ k low. refl;
      cells = every_of (IsEither (OldTells (port_list (setups_of site.controller)) w.notes.frames w.numbers.controls) (TellsUp (port_list (setups_of site.controller))) w.notes.frames w.numbers.controls w.notes.frames w.numbers.controls) (queue_of site.switch.crossbar control_port) (λ cell among on. inl (up_old cell on among));
    };
    gathered = every_of (OldTells (port_list (setups_of site.controller)) w.notes.frames w.numbers.controls) site.controller.reassembly.chain gathered_old;
    up = up.up;
    knows = known_from site.controller up.met up.emptying;
  }
