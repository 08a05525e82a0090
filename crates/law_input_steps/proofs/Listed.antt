-- All Ports is answered: the line asks for Delete All of each port at once, the controller one after another, each with slots
-- or without. What found no slots is lost at the end

use Rattle.std.proofs.Common.{◌≡◌, ℕ, ◌+◌, ◌<◌, ◌≤◌, Bool, true, false, not, List, [], ◌∷◌, ◌++◌, refl, sym, ◌∙◌, ap, subst, filter, map, fold, length, replicate, zero, suc, append-nil, if◌then◌else◌, arith}
use Rattle.std.specs.Prelude.{◌==◌}
use Rattle.std.proofs.lemmas.Bool.Decides.{nat_tests}
use Rattle.law_input_views.specs.world_model.Words.{End, NodeId, PortNo, next_control, is_estab, Cell, Request, AddBranch, MoveBranch, DeleteTree, VerifyTree, PortManagement, frame_cells, withdraws, Standing, last_transaction, message_of, Switch, default_channel, with_desk, asks, asks_next, node_resets}
use Rattle.law_input_views.specs.world_model.gsmp_wire.declared.request.Request.TheVariants.{DeleteAll, AllPorts}
use Rattle.law_input_views.specs.world_model.gsmp_wire.Layout.{octets_of}
use Rattle.law_input_views.specs.ordered_lists.Ordered.{Every}
use Rattle.law_input_views.proofs.ordered_lists.Every.{every_map, every_join}
use Rattle.law_input_views.proofs.ordered_lists.Parts.{IsPart, part_whole, part_none, part_join}
use Rattle.law_input_views.specs.world_model.port_model.Desk.{asked}
use Rattle.law_input_views.specs.law_branch_line.Words as lines
use Rattle.law_input_views.specs.law_branch_line.Words.{Request as LineRequest, OnInput, Elsewhere, delete_all, ToSwitch, Copy, message_type, Success, ToController, Answer}
use Rattle.law_input_views.specs.law_branch_line.Line.{Stands as Standing_at, Meeting, Emptying, Line, Controller}
use Rattle.law_input_views.specs.law_branch_line.Asking.{ask, ask_each, number_taken}
use Rattle.law_input_views.specs.law_branch_line.Controller.{deletes, empty_ports}
use Rattle.law_input_views.specs.world_model.Controller.{Acted}
use Rattle.law_input_views.specs.law_shown_cells.Seen.{Seen, Shows, nothing, hidden, word}
use Rattle.law_input_views.specs.Words.{word_of, is_own, own_of, other_of}
use Rattle.law_input_views.specs.Shown.{AskedShows, IsDeleteAll, PhaseShows}
use Rattle.law_input_steps.specs.Part.{Part, part_at, OwnShows, Stands, Reaches, AnyLine}
pub use Rattle.law_input_steps.specs.Meeting.{AreDistinct, Untouched, MayEmpty, IsAround}
use Rattle.law_input_steps.proofs.Lists.{filter_all, filter_front, filter_skips, filter_cut, map_cut}
use Rattle.law_input_steps.proofs.Ends.{own_is, word_on, word_away, deletes_port, keeps, is_other, own_test, own_ends}
use Rattle.law_input_steps.proofs.Goes.{lose_to_switch}
use Rattle.law_input_steps.proofs.Reach.{reaches_by}
use Rattle.law_input_steps.proofs.Sent.{IsReadable, pool, with_made, control_sent}
use Rattle.law_input_steps.proofs.Asks.{IsCopied, copied, asked_part, sent_stands, line_estab}
use Rattle.law_input_steps.proofs.Sizes.{delete_octets, one_cell}

-- *One word a cell*
shown_length : {W : Type 0} {drop : W → W} {f : Cell → Seen W} {cs : List Cell} {ts : List W} → Shows drop f cs ts → length ts ≤ length cs
shown_length nothing = omega arith
shown_length (hidden {cell} {cells} {words} e h) = let k : length words ≤ length cells = shown_length h in omega (arith, k)
shown_length (word {cell} {cells} {w} {words} e h) = let k : length words ≤ length cells = shown_length h in omega (arith, k)

one_word : {W : Type 0} (c : W) (n : ℕ) → length (c ∷ replicate n c) ≤ 1 → n ≡ 0
one_word c zero h = refl
one_word c (suc n) h = absurd (omega (arith, h))

-- *The meeting may be set before or behind*
abbrev pub with_meeting : Line → Meeting → Line
with_meeting line m = record line { controller = record line.controller { meeting = m } }

ask_meeting : (line : Line) (m : Meeting) (r : LineRequest) → ask (with_meeting line m) r ≡ with_meeting (ask line r) m
ask_meeting line m (OnInput r) = refl
ask_meeting line m (Elsewhere t) = refl

each_meeting : (line : Line) (m : Meeting) (rs : List LineRequest) → ask_each (with_meeting line m) rs ≡ with_meeting (ask_each line rs) m
each_meeting line m [] = refl
each_meeting line m (r ∷ rs) = ap (λ (z : Line). ask_each z rs) (ask_meeting line m r) ∙ each_meeting (ask line r) m rs

module _ (node : NodeId) (input : End) where
  abbrev request : PortNo → LineRequest
  request p = word_of input (DeleteAll p)

  nat_self : (a : ℕ) → (a == a) ≡ true
  nat_self a = grind (arith, nat_tests)

  elsewhere : (ps : List PortNo) → Every (λ (p : PortNo). (p.0 == input.port.0) ≡ false) ps → map request ps ≡ replicate (length ps) (Elsewhere delete_all)
  elsewhere [] h = refl
  elsewhere (p ∷ ps) h = λ i. word_away input (DeleteAll p) h.0 i ∷ elsewhere ps h.1 i

  requests_are : (xs ys : List PortNo) → Every (λ (p : PortNo). (p.0 == input.port.0) ≡ false) xs → Every (λ (p : PortNo). (p.0 == input.port.0) ≡ false) ys
      → map request (xs ++ input.port ∷ ys) ≡ deletes (length xs) (length ys)
  requests_are xs ys hx hy = map_cut request xs (input.port ∷ ys) ∙ (λ i. elsewhere xs hx i ++ (word_on input (DeleteAll input.port) (nat_self input.port.0) i ∷ elsewhere ys hy i))

  none_withdrawn : (p : PortNo) (standing : List Standing) → Every (λ (s : Standing). withdraws (DeleteAll p) s.request ≡ false) standing → filter (keeps input (DeleteAll p)) standing ≡ standing
  none_withdrawn p standing h = filter_all (keeps input (DeleteAll p)) standing
      (every_map (λ (s : Standing). withdraws (DeleteAll p) s.request ≡ false) (λ (s : Standing). keeps input (DeleteAll p) s ≡ true) standing (λ s k. ap not k) h)

  turned_away : (p q r : ℕ) → (q == p) ≡ false → (p == r) ≡ true → (q == r) ≡ false
  turned_away p q r h k = grind (arith, nat_tests)

  not_deleted : (p : PortNo) (r : Request) → (p.0 == input.port.0) ≡ true → withdraws (DeleteAll p) r ≡ false → deletes_port input r ≡ false
  not_deleted p (AddBranch i o) here h = refl
  not_deleted p (MoveBranch i f o) here h = refl
  not_deleted p (DeleteTree i) here h = refl
  not_deleted p (VerifyTree i) here h = refl
  not_deleted p (DeleteAll q) here h = turned_away p.0 q.0 input.port.0 h here
  not_deleted p (PortManagement q function) here h = refl
  not_deleted p AllPorts here h = refl

  still_untouched : (p : PortNo) (ps : List PortNo) (standing : List Standing) (n : ℕ) → Every (λ (q : PortNo). (p.0 == q.0) ≡ false) ps → Untouched ps standing
      → Untouched ps (standing ++ (record { number = n; request = DeleteAll p }) ∷ [])
  still_untouched p [] standing n d h = tt
  still_untouched p (q ∷ ps) standing n d h =
      (every_join (λ (s : Standing). withdraws (DeleteAll q) s.request ≡ false) standing ((record { number = n; request = DeleteAll p }) ∷ []) h.0 (d.0, tt), still_untouched p ps standing n d.1 h.1)

  -- *The desk, and the line's controller*, once one more is asked
  own_asked : (p : Part) (c : Controller) (port : PortNo) → is_estab c.adjacency.state ≡ true → c.meeting ≡ Emptying
      → Every (λ (s : Standing). withdraws (DeleteAll port) s.request ≡ false) p.desk.standing → OwnShows node input p.adjacency p.desk p.met c
      → OwnShows node input p.adjacency (asked p.desk (DeleteAll port)) p.met (number_taken c (request port))
  own_asked p c port estab emptying unasked h =
      by (port.0 == input.port.0) refl
    where
      standing : List Standing
      standing = p.desk.standing

      s : Standing
      s = record { number = p.desk.next; request = DeleteAll port }

      same : filter (keeps input (DeleteAll port)) standing ≡ standing
      same = none_withdrawn port standing unasked

      is : (asked p.desk (DeleteAll port)).standing ≡ standing ++ s ∷ []
      is = ap (λ (z : List Standing). z ++ s ∷ []) same

      phase : PhaseShows c.meeting (asked p.desk (DeleteAll port)).standing
      phase = subst (λ (m : Meeting). PhaseShows m (asked p.desk (DeleteAll port)).standing) (sym emptying)
          (subst (Every (λ (z : Standing). IsDeleteAll z.request)) (sym is)
          (every_join (λ (z : Standing). IsDeleteAll z.request) standing (s ∷ []) (subst (λ (m : Meeting). PhaseShows m standing) emptying h.phase) (tt, tt)))

      by : (t : Bool) → (port.0 == input.port.0) ≡ t → OwnShows node input p.adjacency (asked p.desk (DeleteAll port)) p.met (number_taken c (request port))
      by true t = subst (λ (r : LineRequest). OwnShows node input p.adjacency (asked p.desk (DeleteAll port)) p.met (number_taken c r)) (sym (word_on input (DeleteAll port) t))
          (record {
            side = h.side;
            next = λ e. ap (λ (n : ℕ). n + 1) (h.next e);
            asked = subst (λ (b : Bool). AskedShows input b (own_of input (asked p.desk (DeleteAll port)).standing) (Standing_at c.next lines.DeleteAll)) (sym estab) (record {
              standing = s;
              alone = filter_cut (is_own input) (filter (keeps input (DeleteAll port)) standing) (s ∷ [])
                  ∙ (λ i. own_ends input (DeleteAll port) standing t
                  (every_map (λ (z : Standing). withdraws (DeleteAll port) z.request ≡ false) (λ (z : Standing). deletes_port input z.request ≡ false) standing (λ z k. not_deleted port z.request t k) unasked) i
                  ++ filter_front (is_own input) s [] (own_test input s ∙ t) i);
              numbered = sym (h.next estab);
              is = own_is input (DeleteAll port) t;
            });
            others = h.others ∙ ap (map other_of) (sym (ap (filter (is_other input)) is ∙ (filter_cut (is_other input) standing (s ∷ [])
                ∙ (ap (λ (z : List Standing). filter (is_other input) standing ++ z) (filter_skips (is_other input) s [] (ap not (own_test input s ∙ t))) ∙ append-nil (filter (is_other input) standing)))));
            met = h.met;
            phase = phase;
          })
      by false t = subst (λ (r : LineRequest). OwnShows node input p.adjacency (asked p.desk (DeleteAll port)) p.met (number_taken c r)) (sym (word_away input (DeleteAll port) t))
          (record {
            side = h.side;
            next = λ e. ap (λ (n : ℕ). n + 1) (h.next e);
            asked = subst (λ (z : List Standing). AskedShows input (is_estab c.adjacency.state) z c.asked)
                (sym (ap (own_of input) is ∙ (filter_cut (is_own input) standing (s ∷ [])
                ∙ (ap (λ (z : List Standing). own_of input standing ++ z) (filter_skips (is_own input) s [] (own_test input s ∙ t)) ∙ append-nil (own_of input standing))))) h.asked;
            others = (λ i. h.others i ++ (record { number = h.next estab i; message_type = 20 }) ∷ [])
                ∙ sym (ap (map other_of) (ap (filter (is_other input)) is ∙ (filter_cut (is_other input) standing (s ∷ [])
                ∙ ap (λ (z : List Standing). filter (is_other input) standing ++ z) (filter_front (is_other input) s [] (ap not (own_test input s ∙ t)))))
                ∙ map_cut other_of (filter (is_other input) standing) (s ∷ []));
            met = h.met;
            phase = phase;
          })

  -- asking looks at no queue
  ask_is : (line : Line) (q : List ToSwitch) (r : LineRequest) → record (ask line r) { to_switch = q } ≡ record line { controller = number_taken line.controller r; to_switch = q }
  ask_is line q (OnInput r) = refl
  ask_is line q (Elsewhere t) = refl

  ask_to : (line : Line) (r : LineRequest) → (ask line r).to_switch ≡ line.to_switch ++ Copy line.controller.adjacency.own line.controller.next r ∷ []
  ask_to line (OnInput r) = refl
  ask_to line (Elsewhere t) = refl

  ask_keeps : (line : Line) (r : LineRequest) → (ask line r).controller.meeting ≡ line.controller.meeting
  ask_keeps line (OnInput r) = refl
  ask_keeps line (Elsewhere t) = refl

  part_pool : (fits : Bool) (q xs : List ToSwitch) (c : ToSwitch) → IsPart q xs → IsPart (pool fits q (c ∷ [])) (xs ++ c ∷ [])
  part_pool true q xs c p = part_join p (part_whole (c ∷ []))
  part_pool false q xs c p = subst (λ (z : List ToSwitch). IsPart z (xs ++ c ∷ [])) (append-nil q) (part_join p (part_none (c ∷ [])))

  -- *The line has asked all*, and a part of what it said stands in the queue
  pub record HasAsked (p : Part) (line : Line) : Type 0 where
    pub queue : List ToSwitch
    pub part : IsPart queue line.to_switch
    pub stands : Stands node input p (record line { to_switch = queue })

  asks_one : (p : Part) (line : Line) (port : PortNo) (fits : Bool) → is_estab p.adjacency.state ≡ true → line.controller.meeting ≡ Emptying
      → Every (λ (s : Standing). withdraws (DeleteAll port) s.request ≡ false) p.desk.standing → IsReadable (message_of p.desk.rows p.desk.next (DeleteAll port))
      → HasAsked p line → HasAsked (asked_part node input p (DeleteAll port) fits) (ask line (request port))
  asks_one p line port fits estab emptying unasked reads h =
      let in_line : is_estab line.controller.adjacency.state ≡ true = sym (line_estab h.stands.own) ∙ estab in
      let c : ToSwitch = Copy line.controller.adjacency.own line.controller.next (request port) in
      let payload : List ℕ = octets_of (message_of p.desk.rows p.desk.next (DeleteAll port)) in
      let w : ToSwitch = Copy line.controller.adjacency.own p.desk.next (request port) in
      let k : IsCopied node input (with_made p payload).frames (frame_cells default_channel (next_control p.numbers) payload) w =
      copied node input p p.desk.rows p.desk.next (DeleteAll port) line.controller.adjacency.own (request port) tt reads refl in
      let single : length (w ∷ replicate k.more w) ≤ 1 = subst (λ (n : ℕ). length (w ∷ replicate k.more w) ≤ n)
      (one_cell default_channel (next_control p.numbers) payload (delete_octets p.desk.rows p.desk.next port)) (shown_length k.shows) in
      let words : w ∷ replicate k.more w ≡ c ∷ [] = ap (λ (n : ℕ). w ∷ replicate n w) (one_word w k.more single) ∙ (λ i. Copy line.controller.adjacency.own (sym (h.stands.own.next in_line) i) (request port) ∷ []) in
      let sent : Stands node input (asked_part node input p (DeleteAll port) fits) (record line { controller = number_taken line.controller (request port); to_switch = pool fits h.queue (c ∷ []) }) =
      subst (λ (z : List ToSwitch). Stands node input (asked_part node input p (DeleteAll port) fits) (record line { controller = number_taken line.controller (request port); to_switch = pool fits h.queue z })) words
      (sent_stands node input p (DeleteAll port) fits (record line { to_switch = h.queue }) (number_taken line.controller (request port)) w
      (own_asked p line.controller port in_line emptying unasked h.stands.own) k h.stands) in
      record {
        queue = pool fits h.queue (c ∷ []);
        part = subst (IsPart (pool fits h.queue (c ∷ []))) (sym (ask_to line (request port))) (part_pool fits h.queue line.to_switch c h.part);
        stands = subst (Stands node input (asked_part node input p (DeleteAll port) fits)) (sym (ask_is line (pool fits h.queue (c ∷ [])) (request port))) sent;
      }

  may_next : (p : Part) (port : PortNo) (ports : List PortNo) (fits : Bool) → MayEmpty p (port ∷ ports) → MayEmpty (asked_part node input p (DeleteAll port) fits) ports
  may_next p port ports fits m = record {
    estab = m.estab;
    distinct = m.distinct.1;
    untouched = subst (λ (z : List Standing). Untouched ports (z ++ (record { number = p.desk.next; request = DeleteAll port }) ∷ [])) (sym (none_withdrawn port p.desk.standing m.untouched.0))
        (still_untouched port ports p.desk.standing p.desk.next m.distinct.0 m.untouched.1);
    room = omega (arith, m.room);
    reads = m.reads.1;
  }

  not_last : (n k : ℕ) → n + suc k ≤ last_transaction → (n == last_transaction) ≡ false
  not_last n k h = grind (arith, nat_tests, h)

  below_last : (n k : ℕ) → n + suc k ≤ last_transaction → n < last_transaction
  below_last n k h = omega (arith, h)

  asks_is : (a : Acted) (r : Request) → is_estab a.controller.adjacency.state ≡ true → (a.controller.desk.next == last_transaction) ≡ false → asks a r ≡ asks_next a r
  asks_is a r estab low = ap (λ (t : Bool). if t then (if a.controller.desk.next == last_transaction then node_resets a else asks_next a r) else a) estab
      ∙ ap (λ (t : Bool). if t then node_resets a else asks_next a r) low

  pub asks_all : (switch : Switch) (ports : List PortNo) (a : Acted) (line : Line) → line.controller.meeting ≡ Emptying → MayEmpty (part_at input switch a) ports
      → HasAsked (part_at input switch a) line → HasAsked (part_at input switch (fold asks a (map DeleteAll ports))) (ask_each line (map request ports))
  asks_all switch [] a line emptying m h = h
  asks_all switch (port ∷ ports) a line emptying m h =
      let p : Part = part_at input switch a in
      let next : Acted = asks a (DeleteAll port) in
      let after : Line = ask line (request port) in
      let both : MayEmpty (part_at input switch next) ports × HasAsked (part_at input switch next) after =
      subst (λ (z : Acted). MayEmpty (part_at input switch z) ports × HasAsked (part_at input switch z) after) (sym (asks_is a (DeleteAll port) m.estab (not_last a.controller.desk.next (length ports) m.room)))
      (control_sent input switch (λ (q : Part). MayEmpty q ports × HasAsked q after) (with_desk a (asked a.controller.desk (DeleteAll port))) default_channel
      (octets_of (message_of a.controller.desk.rows a.controller.desk.next (DeleteAll port)))
      (λ fits. (
        may_next p port ports fits m,
        asks_one p line port fits m.estab emptying m.untouched.0 (m.reads.0 a.controller.desk.next (below_last a.controller.desk.next (length ports) m.room)) h,
      ))) in
      asks_all switch ports next after (ask_keeps line (request port) ∙ emptying) both.0 both.1

  pub empties_line : (switch : Switch) (a : Acted) (line : Line) (ports xs ys : List PortNo) → IsAround input ports xs ys line → MayEmpty (part_at input switch a) ports
      → Stands node input (part_at input switch a) (with_meeting line Emptying) → Reaches node input (part_at input switch (fold asks a (map DeleteAll ports))) AnyLine (empty_ports line)
  empties_line switch a line ports xs ys around m h =
      let begun : Line = with_meeting line Emptying in
      let all : Line = ask_each begun (map request ports) in
      let done : HasAsked (part_at input switch (fold asks a (map DeleteAll ports))) all = asks_all switch ports a begun refl m
      (record { queue = line.to_switch; part = part_whole line.to_switch; stands = h }) in
      let same : empty_ports line ≡ all =
      ap (λ (rs : List LineRequest). with_meeting (ask_each line rs) Emptying)
      ((λ i. deletes (around.before i) (around.behind i)) ∙ (sym (requests_are xs ys around.below around.above) ∙ ap (map request) (sym around.is)))
      ∙ sym (each_meeting line Emptying (map request ports)) in
      subst (λ (z : Line). Reaches node input (part_at input switch (fold asks a (map DeleteAll ports))) AnyLine z) (sym same)
      (reaches_by node input (part_at input switch (fold asks a (map DeleteAll ports))) all (record all { to_switch = done.queue }) (lose_to_switch all done.part) done.stands)
