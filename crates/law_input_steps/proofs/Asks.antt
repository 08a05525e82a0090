-- a request is asked: what stood on its input is withdrawn, its cells join the queue or find no slots

use Rattle.std.proofs.Common.{◌≡◌, ℕ, ◌+◌, ◌<◌, Bool, true, false, not, List, [], ◌∷◌, ◌++◌, Option, Some, None, refl, sym, ◌∙◌, ap, subst, filter, map, replicate, append_assoc, append-nil, if◌then◌else◌, arith}
use Rattle.std.specs.Prelude.{◌&&◌}
use Rattle.law_input_views.specs.world_model.Words.{End, NodeId, Party, next_control, with_control, Side, is_estab, Cell, Request, AddBranch, MoveBranch, DeleteTree, VerifyTree, PortManagement, PortRow, Frame, payload_of, frame_cells, same_end, Desk, Standing, message_of, default_channel}
use Rattle.law_input_views.specs.world_model.gsmp_wire.declared.message.Message.{Message}
use Rattle.law_input_views.specs.world_model.gsmp_wire.declared.request.Request.TheVariants.{DeleteAll, AllPorts}
use Rattle.law_input_views.specs.world_model.gsmp_wire.Layout.{octets_of}
use Rattle.law_input_views.specs.ordered_lists.Ordered.{Every, InOrder}
use Rattle.law_input_views.proofs.ordered_lists.Every.{every_map, every_join}
use Rattle.law_input_views.proofs.ordered_lists.InOrder.{order_join, order_mapped}
use Rattle.law_input_views.proofs.ordered_lists.Parts.{IsPart, part_filtered, every_part, order_part}
use Rattle.law_input_views.specs.world_model.port_model.Desk.{asked, message_at}
use Rattle.law_input_views.specs.law_branch_line.Words as lines
use Rattle.law_input_views.specs.law_branch_line.Words.{ToSwitch, Copy, OnInput, Elsewhere}
use Rattle.law_input_views.specs.law_branch_line.Line.{Asked, Apart, Unasked, Stands as Standing_at, Answered, Other, Meeting, Listing, Emptying, Met, MetAndAsked, Controller, Line}
use Rattle.law_input_views.specs.law_branch_line.Asking.{has_met, deletes_all, ask}
use Rattle.law_input_views.specs.law_branch_line.Moves.{Ask, AskAgain, AskOtherAgain, step}
use Rattle.law_input_views.specs.law_shown_cells.Seen.{Seen, Word}
use Rattle.law_input_views.specs.Words.{own_request, type_of, word_of, is_own, own_of, other_of, others_of, seen_request, seen_on_gsmp, erased}
use Rattle.law_input_views.specs.Shown.{controller_of, switch_of, AskedShows, PhaseShows, ShowsRequests}
use Rattle.law_input_views.proofs.Cells.{frame_of_copies}
use Rattle.law_input_steps.specs.Part.{Part, IsEarlier, IsNumbered, OwnShows, Stands, Reaches, AnyLine, Leads}
use Rattle.law_input_steps.proofs.Lists.{filter_front, filter_skips, filter_cut, every_filter, map_cut, alike_turned}
use Rattle.law_input_steps.proofs.Ends.{IsAsked, concerns, on_input, own_is, own_not, word_on, word_away, deletes_port, keeps, NoDeleteAll, is_other, own_test, own_ends, own_same, others_part}
use Rattle.law_input_steps.proofs.Goes.{Goes, goes_to, goes_next, by_move, lose_to_switch, Rise, with_others, withdraw_part, again_is}
use Rattle.law_input_steps.proofs.Reach.{reaches_by, stands_later}
use Rattle.law_input_steps.proofs.Sent.{IsReadable, pool, pool_shows, pool_part, with_made, with_sent, made_extends, made_unmade, made_under, again_each}

-- *The numbers of the desk*
pub filtered_numbered : (desk : Desk) (test : Standing → Bool) → IsNumbered desk → IsNumbered (record desk { standing = filter test desk.standing })
filtered_numbered desk test h = record {
  below = every_part (λ (s : Standing). s.number < desk.next) (part_filtered test desk.standing) h.below;
  earlier = order_part IsEarlier (part_filtered test desk.standing) h.earlier;
}

new_numbered : (desk : Desk) (r : Request) → IsNumbered desk
    → IsNumbered (record desk { next = desk.next + 1; standing = desk.standing ++ record { number = desk.next; request = r } ∷ [] })
new_numbered desk r h = record {
  below = every_join (λ (s : Standing). s.number < desk.next + 1) desk.standing (record { number = desk.next; request = r } ∷ [])
      (every_map (λ (s : Standing). s.number < desk.next) (λ (s : Standing). s.number < desk.next + 1) desk.standing (λ s k. omega (arith, k)) h.below) (omega arith, tt);
  earlier = order_join IsEarlier desk.standing (record { number = desk.next; request = r } ∷ []) h.earlier
      (every_map (λ (s : Standing). s.number < desk.next) (λ (s : Standing). Every (IsEarlier s) (record { number = desk.next; request = r } ∷ [])) desk.standing (λ s k. (k, tt)) h.below) (tt, tt);
}

pub asked_numbered : (input : End) (desk : Desk) (r : Request) → IsNumbered desk → IsNumbered (asked desk r)
asked_numbered input desk r h = new_numbered (record desk { standing = filter (keeps input r) desk.standing }) r (filtered_numbered desk (keeps input r) h)

pub others_rise : (input : End) (desk : Desk) → IsNumbered desk → InOrder Rise (others_of input desk.standing)
others_rise input desk h = order_mapped other_of Rise (filter (is_other input) desk.standing) (order_part IsEarlier (part_filtered (is_other input) desk.standing) h.earlier)

-- *A request that stands isn't Delete All* where none stands of its port
deleting : (input : End) (r : Request) → own_request input r ≡ Some lines.DeleteAll → deletes_port input r ≡ false → ⊥
deleting input (AddBranch i o) h away = elim (same_end input i) as (λ t. (if t then Some (lines.AddBranch o) else None) ≡ Some lines.DeleteAll → ⊥) [ true ↦ λ k. absurd (cc k) | false ↦ λ k. absurd (cc k) ] h
deleting input (MoveBranch i f o) h away = elim (same_end input i) as (λ t. (if t then Some (lines.MoveBranch f o) else None) ≡ Some lines.DeleteAll → ⊥) [ true ↦ λ k. absurd (cc k) | false ↦ λ k. absurd (cc k) ] h
deleting input (DeleteTree i) h away = elim (same_end input i) as (λ t. (if t then Some lines.DeleteTree else None) ≡ Some lines.DeleteAll → ⊥) [ true ↦ λ k. absurd (cc k) | false ↦ λ k. absurd (cc k) ] h
deleting input (VerifyTree i) h away = absurd (cc h)
deleting input (DeleteAll p) h away = absurd (cc (sym (own_not input (DeleteAll p) away) ∙ h))
deleting input (PortManagement p function) h away = absurd (cc h)
deleting input AllPorts h away = absurd (cc h)

pub not_deleting : (input : End) (estab : Bool) (own : List Standing) (asks : Asked) → AskedShows input estab own asks → NoDeleteAll input own → deletes_all asks ≡ false
not_deleting input true own Apart h away = refl
not_deleting input true own Unasked h away = refl
not_deleting input true own (Answered n r) h away = refl
not_deleting input false own asks h away = ap deletes_all h.0
not_deleting input true own (Standing_at n (lines.AddBranch o)) h away = refl
not_deleting input true own (Standing_at n (lines.MoveBranch f o)) h away = refl
not_deleting input true own (Standing_at n lines.DeleteTree) h away = refl
not_deleting input true own (Standing_at n lines.DeleteAll) h away =
    absurd (deleting input h.standing.request h.is (subst (NoDeleteAll input) h.alone away).0)

pub met_phase : (meeting : Meeting) (standing : List Standing) → has_met meeting ≡ true → PhaseShows meeting standing
met_phase Listing standing h = absurd (cc h)
met_phase Emptying standing h = absurd (cc h)
met_phase Met standing h = tt
met_phase MetAndAsked standing h = tt

pub line_estab : {node : NodeId} {input : End} {adjacency : Side Party} {desk : Desk} {has : Bool} {c : Controller} → OwnShows node input adjacency desk has c
    → is_estab adjacency.state ≡ is_estab c.adjacency.state
line_estab h = ap (λ (s : Side Party). is_estab s.state) h.side

-- *What the cells of a request show*
pub request_seen : (own far : ℕ → Party) (input : End) (last : Bool) (rows : List PortRow) (n : ℕ) (r : Request) → IsAsked r
    → seen_request own far input last (Some (message_of rows n r)) ≡ Word (Copy 0 n (word_of input r))
request_seen own far input last rows n (AddBranch i o) shape = refl
request_seen own far input last rows n (MoveBranch i f o) shape = refl
request_seen own far input last rows n (DeleteTree i) shape = refl
request_seen own far input last rows n (VerifyTree i) shape = absurd shape
request_seen own far input last rows n (DeleteAll p) shape = refl
request_seen own far input last rows n (PortManagement p function) shape = absurd shape
request_seen own far input last rows n AllPorts shape = refl

module _ (node : NodeId) (input : End) where
  abbrev pub seen_to_switch : (last : Bool) → Option Message → Seen ToSwitch
  seen_to_switch last m = seen_request (controller_of node) (switch_of node) input last m

  payload_seen : (rows : List PortRow) (n : ℕ) (r : Request) (under : ℕ) (w : lines.Request) (last : Bool) (o : Option (List ℕ)) → IsAsked r → IsReadable (message_of rows n r)
      → w ≡ word_of input r → o ≡ Some (octets_of (message_of rows n r)) → seen_on_gsmp seen_to_switch last o ≡ Word (erased (Copy under n w))
  payload_seen rows n r under w last o shape reads is made = ap (seen_on_gsmp seen_to_switch last) made
      ∙ (ap (seen_to_switch last) reads ∙ (request_seen (controller_of node) (switch_of node) input last rows n r shape ∙ ap (λ (z : lines.Request). Word (Copy 0 n z)) (sym is)))

  -- its frame: as many copies as it has cells
  pub record IsCopied (frames : List Frame) (cells : List Cell) (c : ToSwitch) : Type 0 where
    pub more : ℕ
    pub shows : ShowsRequests node input frames cells (c ∷ replicate more c)

  pub copied : (p : Part) (rows : List PortRow) (n : ℕ) (r : Request) (under : ℕ) (w : lines.Request) → IsAsked r → IsReadable (message_of rows n r) → w ≡ word_of input r
      → let payload : List ℕ = octets_of (message_of rows n r) in
      IsCopied (with_made p payload).frames (frame_cells default_channel (next_control p.numbers) payload) (Copy under n w)
  copied p rows n r under w shape reads is =
      let payload : List ℕ = octets_of (message_of rows n r) in
      let frame = frame_of_copies seen_to_switch erased (with_made p payload).frames (next_control p.numbers) payload (Copy under n w)
      (λ last. payload_seen rows n r under w last (payload_of (with_made p payload).frames (next_control p.numbers)) shape reads is (made_under p payload)) in
      record { more = frame.0; shows = subst (ShowsRequests node input (with_made p payload).frames (frame_cells default_channel (next_control p.numbers) payload)) (alike_turned (Copy under n w) frame.0) frame.1 }

  -- *The desk* once the request is asked, and the line's controller
  abbrev left_of : Desk → Request → List Standing
  left_of desk r = filter (keeps input r) desk.standing

  abbrev pub new_of : Desk → Request → Standing
  new_of desk r = record { number = desk.next; request = r }

  abbrev own_asked : Desk → Controller → Request → Controller
  own_asked desk c r = record c {
    next = c.next + 1;
    asked = Standing_at c.next (on_input r);
    others = others_of input (left_of desk r);
    meeting = MetAndAsked;
  }

  own_shows : (adjacency : Side Party) (desk : Desk) (has : Bool) (c : Controller) (r : Request) → is_estab c.adjacency.state ≡ true → has ≡ true → concerns input r ≡ true
      → NoDeleteAll input desk.standing → OwnShows node input adjacency desk has c → OwnShows node input adjacency (asked desk r) has (own_asked desk c r)
  own_shows adjacency desk has c r estab met here away h = record {
    side = h.side;
    next = λ e. ap (λ (n : ℕ). n + 1) (h.next e);
    asked = subst (λ (t : Bool). AskedShows input t (own_of input (asked desk r).standing) (Standing_at c.next (on_input r))) (sym estab)
        (record {
          standing = new_of desk r;
          alone = filter_cut (is_own input) (left_of desk r) (new_of desk r ∷ [])
              ∙ (λ i. own_ends input r desk.standing here away i ++ filter_front (is_own input) (new_of desk r) [] (own_test input (new_of desk r) ∙ here) i);
          numbered = sym (h.next estab);
          is = own_is input r here;
        });
    others = sym (ap (map other_of) (filter_cut (is_other input) (left_of desk r) (new_of desk r ∷ [])
        ∙ (ap (λ (z : List Standing). filter (is_other input) (left_of desk r) ++ z) (filter_skips (is_other input) (new_of desk r) [] (ap not (own_test input (new_of desk r) ∙ here)))
        ∙ append-nil (filter (is_other input) (left_of desk r)))));
    met = sym met;
    phase = tt;
  }

  abbrev away_asked : Desk → Controller → Request → Controller
  away_asked desk c r = record c {
    next = c.next + 1;
    others = others_of input (left_of desk r) ++ record { number = c.next; message_type = type_of r } ∷ [];
  }

  away_shows : (adjacency : Side Party) (desk : Desk) (has : Bool) (c : Controller) (r : Request) → is_estab c.adjacency.state ≡ true → has ≡ true → IsAsked r → concerns input r ≡ false
      → OwnShows node input adjacency desk has c → OwnShows node input adjacency (asked desk r) has (away_asked desk c r)
  away_shows adjacency desk has c r estab met shape away h = record {
    side = h.side;
    next = λ e. ap (λ (n : ℕ). n + 1) (h.next e);
    asked = subst (λ (z : List Standing). AskedShows input (is_estab c.adjacency.state) z c.asked) (sym own) h.asked;
    others = sym (ap (map other_of) (filter_cut (is_other input) (left_of desk r) (new_of desk r ∷ [])
        ∙ ap (λ (z : List Standing). filter (is_other input) (left_of desk r) ++ z) (filter_front (is_other input) (new_of desk r) [] (ap not (own_test input (new_of desk r) ∙ away))))
        ∙ (map_cut other_of (filter (is_other input) (left_of desk r)) (new_of desk r ∷ [])
        ∙ (λ i. others_of input (left_of desk r) ++ (record { number = sym (h.next estab) i; message_type = type_of r }) ∷ [])));
    met = h.met;
    phase = met_phase c.meeting (asked desk r).standing (h.met ∙ met);
  }
    where
      own : own_of input (asked desk r).standing ≡ own_of input desk.standing
      own = filter_cut (is_own input) (left_of desk r) (new_of desk r ∷ [])
          ∙ (ap (λ (z : List Standing). own_of input (left_of desk r) ++ z) (filter_skips (is_own input) (new_of desk r) [] (own_test input (new_of desk r) ∙ away))
          ∙ (append-nil (own_of input (left_of desk r)) ∙ own_same input r desk.standing shape away))

  both_hold : (a b : Bool) → a ≡ true → b ≡ false → (a && not b) ≡ true
  both_hold a b p q = λ i. p i && not (q i)

  -- *Moves*: what it withdraws, itself, and itself again for each further cell
  abbrev pub with_controller : Line → Controller → Line
  with_controller line c = record line { controller = c }

  own_goes : (desk : Desk) (line : Line) (r : Request) (n : ℕ) → has_met line.controller.meeting ≡ true → deletes_all line.controller.asked ≡ false → IsNumbered desk
      → line.controller.others ≡ others_of input desk.standing
      → let c : ToSwitch = Copy line.controller.adjacency.own line.controller.next (OnInput (on_input r)) in
      Goes line (record (with_controller line (own_asked desk line.controller r)) { to_switch = line.to_switch ++ c ∷ replicate n c })
  own_goes desk line r n met free numbered is =
      let os : List Other = others_of input (left_of desk r) in
      let b : Line = with_others line os in
      let c : ToSwitch = Copy line.controller.adjacency.own line.controller.next (OnInput (on_input r)) in
      let asking : Line = with_controller line (own_asked desk line.controller r) in
      let first : Line = record asking { to_switch = line.to_switch ++ c ∷ [] } in
      goes_next line first (record asking { to_switch = line.to_switch ++ c ∷ replicate n c })
      (goes_next line b first
      (withdraw_part line os met (subst (InOrder Rise) (sym is) (others_rise input desk numbered)) (subst (λ (z : List Other). IsPart os z) (sym is) (others_part input r desk.standing)))
      (by_move b (Ask (OnInput (on_input r))) first
      (ap (λ (t : Bool). if t then ask (record b { controller = record b.controller { meeting = MetAndAsked } }) (OnInput (on_input r)) else b) (both_hold (has_met line.controller.meeting) (deletes_all line.controller.asked) met free))))
      (goes_to first (record asking { to_switch = (line.to_switch ++ c ∷ []) ++ replicate n c }) (record asking { to_switch = line.to_switch ++ c ∷ replicate n c })
      (again_each asking AskAgain c (λ q. refl) n (line.to_switch ++ c ∷ [])) (ap (λ (z : List ToSwitch). record asking { to_switch = z }) (append_assoc line.to_switch (c ∷ []) (replicate n c))))

  again_new : (line : Line) (os : List Other) (x : Other) (q : List ToSwitch) → line.controller.others ≡ os ++ x ∷ [] → InOrder Rise line.controller.others
      → step (record line { to_switch = q }) (AskOtherAgain x.number) ≡ record line { to_switch = q ++ Copy line.controller.adjacency.own x.number (Elsewhere x.message_type) ∷ [] }
  again_new line os x q is rise = again_is (record line { to_switch = q }) os x [] is rise

  away_goes : (desk : Desk) (line : Line) (r : Request) (n : ℕ) → has_met line.controller.meeting ≡ true → IsNumbered (asked desk r) → IsNumbered desk
      → line.controller.others ≡ others_of input desk.standing → InOrder Rise (away_asked desk line.controller r).others
      → let c : ToSwitch = Copy line.controller.adjacency.own line.controller.next (Elsewhere (type_of r)) in
      Goes line (record (with_controller line (away_asked desk line.controller r)) { to_switch = line.to_switch ++ c ∷ replicate n c })
  away_goes desk line r n met new numbered is rise =
      let os : List Other = others_of input (left_of desk r) in
      let b : Line = with_others line os in
      let c : ToSwitch = Copy line.controller.adjacency.own line.controller.next (Elsewhere (type_of r)) in
      let asking : Line = with_controller line (away_asked desk line.controller r) in
      let first : Line = record asking { to_switch = line.to_switch ++ c ∷ [] } in
      goes_next line first (record asking { to_switch = line.to_switch ++ c ∷ replicate n c })
      (goes_next line b first
      (withdraw_part line os met (subst (InOrder Rise) (sym is) (others_rise input desk numbered)) (subst (λ (z : List Other). IsPart os z) (sym is) (others_part input r desk.standing)))
      (by_move b (Ask (Elsewhere (type_of r))) first
      (ap (λ (t : Bool). if t then ask (record b { controller = record b.controller { meeting = b.controller.meeting } }) (Elsewhere (type_of r)) else b) met)))
      (goes_to first (record asking { to_switch = (line.to_switch ++ c ∷ []) ++ replicate n c }) (record asking { to_switch = line.to_switch ++ c ∷ replicate n c })
      (again_each asking (AskOtherAgain line.controller.next) c
      (λ q. again_new asking os (record { number = line.controller.next; message_type = type_of r }) q refl rise) n (line.to_switch ++ c ∷ []))
      (ap (λ (z : List ToSwitch). record asking { to_switch = z }) (append_assoc line.to_switch (c ∷ []) (replicate n c))))

  abbrev copy_at : Line → lines.Request → ℕ → ToSwitch
  copy_at line q n = Copy line.controller.adjacency.own n q

  -- *Asked*, where the switch is met and no Delete All of the input's port stands beside a request of the input
  abbrev pub asked_part : Part → Request → (fits : Bool) → Part
  asked_part p r fits = record (with_sent p default_channel (octets_of (message_at (asked p.desk r) (new_of p.desk r))) fits) { desk = asked p.desk r }

  pub sent_stands : (p : Part) (r : Request) (fits : Bool) (line : Line) (c : Controller) (word : ToSwitch) → OwnShows node input p.adjacency (asked p.desk r) p.met c
      → (k : IsCopied (with_made p (octets_of (message_at (asked p.desk r) (new_of p.desk r)))).frames (frame_cells default_channel (next_control p.numbers) (octets_of (message_at (asked p.desk r) (new_of p.desk r)))) word)
      → Stands node input p line → Stands node input (asked_part p r fits) (record (with_controller line c) { to_switch = pool fits line.to_switch (word ∷ replicate k.more word) })
  sent_stands p r fits line c word own k h = record {
    own = own;
    far = h.far;
    to_switch = pool_shows fits later.to_switch k.shows;
    at_switch = later.at_switch;
    to_controller = later.to_controller;
    gathered = later.gathered;
    at_controller = h.at_controller;
    drawn = h.drawn;
    before = h.before;
    behind = h.behind;
    unmade = later.unmade;
    numbered = asked_numbered input p.desk r h.numbered;
  }
    where
      payload : List ℕ
      payload = octets_of (message_at (asked p.desk r) (new_of p.desk r))

      later : Stands node input (with_made p payload) line
      later = stands_later node input p (with_made p payload).frames (with_control p.numbers) line (made_extends p payload h.unmade) (made_unmade p payload h.unmade) (omega arith) h

  pub asks_leads : (p : Part) (r : Request) (fits : Bool) → is_estab p.adjacency.state ≡ true → p.met ≡ true → IsAsked r → IsReadable (message_of p.desk.rows p.desk.next r)
      → (concerns input r ≡ true → NoDeleteAll input p.desk.standing) → Leads node input p (asked_part p r fits)
  asks_leads p r fits estab met shape reads away line h =
      let line_in : is_estab line.controller.adjacency.state ≡ true = sym (line_estab h.own) ∙ estab in
      let line_met : has_met line.controller.meeting ≡ true = h.own.met ∙ met in
      elim (concerns input r) as (λ t. concerns input r ≡ t → Reaches node input (asked_part p r fits) AnyLine line) [
        | true ↦ λ t.
            let w : ToSwitch = Copy line.controller.adjacency.own p.desk.next (OnInput (on_input r)) in
            let k = copied p p.desk.rows p.desk.next r line.controller.adjacency.own (OnInput (on_input r)) shape reads (sym (word_on input r t)) in
            let free : deletes_all line.controller.asked ≡ false = not_deleting input (is_estab line.controller.adjacency.state) (own_of input p.desk.standing) line.controller.asked h.own.asked
            (every_filter (is_own input) (λ (s : Standing). deletes_port input s.request ≡ false) p.desk.standing (away t)) in
            let after : Line = with_controller line (own_asked p.desk line.controller r) in
            reaches_by node input (asked_part p r fits) line (record after { to_switch = pool fits line.to_switch (w ∷ replicate k.more w) })
            (goes_next line (record after { to_switch = line.to_switch ++ w ∷ replicate k.more w }) (record after { to_switch = pool fits line.to_switch (w ∷ replicate k.more w) })
            (goes_to line (record after { to_switch = line.to_switch ++ copy_at line (OnInput (on_input r)) line.controller.next ∷ replicate k.more (copy_at line (OnInput (on_input r)) line.controller.next) })
            (record after { to_switch = line.to_switch ++ w ∷ replicate k.more w })
            (own_goes p.desk line r k.more line_met free h.numbered h.own.others)
            (ap (λ (m : ℕ). record after { to_switch = line.to_switch ++ copy_at line (OnInput (on_input r)) m ∷ replicate k.more (copy_at line (OnInput (on_input r)) m) }) (h.own.next line_in)))
            (lose_to_switch after (pool_part fits line.to_switch (w ∷ replicate k.more w))))
            (sent_stands p r fits line (own_asked p.desk line.controller r) w (own_shows p.adjacency p.desk p.met line.controller r line_in met t (away t) h.own) k h)
        | false ↦ λ t.
            let w : ToSwitch = Copy line.controller.adjacency.own p.desk.next (Elsewhere (type_of r)) in
            let k = copied p p.desk.rows p.desk.next r line.controller.adjacency.own (Elsewhere (type_of r)) shape reads (sym (word_away input r t)) in
            let after : Line = with_controller line (away_asked p.desk line.controller r) in
            let own : OwnShows node input p.adjacency (asked p.desk r) p.met (away_asked p.desk line.controller r) = away_shows p.adjacency p.desk p.met line.controller r line_in met shape t h.own in
            let new : IsNumbered (asked p.desk r) = asked_numbered input p.desk r h.numbered in
            reaches_by node input (asked_part p r fits) line (record after { to_switch = pool fits line.to_switch (w ∷ replicate k.more w) })
            (goes_next line (record after { to_switch = line.to_switch ++ w ∷ replicate k.more w }) (record after { to_switch = pool fits line.to_switch (w ∷ replicate k.more w) })
            (goes_to line (record after { to_switch = line.to_switch ++ copy_at line (Elsewhere (type_of r)) line.controller.next ∷ replicate k.more (copy_at line (Elsewhere (type_of r)) line.controller.next) })
            (record after { to_switch = line.to_switch ++ w ∷ replicate k.more w })
            (away_goes p.desk line r k.more line_met new h.numbered h.own.others (subst (InOrder Rise) (sym own.others) (others_rise input (asked p.desk r) new)))
            (ap (λ (m : ℕ). record after { to_switch = line.to_switch ++ copy_at line (Elsewhere (type_of r)) m ∷ replicate k.more (copy_at line (Elsewhere (type_of r)) m) }) (h.own.next line_in)))
            (lose_to_switch after (pool_part fits line.to_switch (w ∷ replicate k.more w))))
            (sent_stands p r fits line (away_asked p.desk line.controller r) w own k h)
      ] refl
