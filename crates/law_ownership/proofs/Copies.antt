-- copies are in the order of their numbers: the law of the line of their input, as the network shows it

use Rattle.std.proofs.Common.{◌≡◌, ℕ, ◌≤◌, Bool, true, false, List, [], ◌∷◌, ◌++◌, Option, None, Some, refl, sym, ◌∙◌, ap, subst, arith, if◌then◌else◌, filter}
use Rattle.std.specs.Prelude.{is_some, option_map, ◌==◌}
use Rattle.std.specs.Option.{option_map_or, option_and_then}
use Rattle.law_frame_readings.specs.world_model.Words.{End, NodeId, Party, Down, Estab, Side, Cell, Move, Request, AddBranch, MoveBranch, DeleteTree, VerifyTree, PortManagement, same_end, Controller, Linked, port_key, Frame, payload_of, Standing, default_channel, same_channel, Site, queue_in, gsmp_of, copy_of, copy_under, to_switch, on_channel}
use Rattle.law_frame_readings.specs.world_model.gsmp_wire.declared.message.Message.{Message}
use Rattle.law_frame_readings.specs.world_model.gsmp_wire.declared.message.Message.TheVariants.{Adjacency, Branch, Port, AllPorts}
use Rattle.law_frame_readings.specs.world_model.gsmp_wire.declared.request.Request.TheVariants as requests
use Rattle.law_frame_readings.specs.ordered_lists.Ordered.{InOrder}
use Rattle.law_frame_readings.proofs.ordered_lists.InOrder.{order_map}
use Rattle.law_branch_line.specs.Words as lines
use Rattle.law_branch_line.specs.Line.{Line, way_to_switch}
use Rattle.law_branch_line.specs.Law as laws
use Rattle.law_branch_line.specs.Law.{Always, IsAskedUnder, HasOnlyNewInEstab}
use Rattle.law_frame_readings.specs.law_shown_cells.Seen.{Seen, Nothing, Word, nothing, hidden, word}
use Rattle.law_frame_readings.proofs.law_shown_cells.Shows.{shows_join}
use Rattle.law_frame_readings.specs.law_input_views.Words.{own_request, type_of, word_by, word_of, seen_copy, seen_request, seen_on_gsmp, seen_cell, erased}
use Rattle.law_frame_readings.specs.law_input_views.Shown.{controller_of, switch_of, ShowsRequests}
use Rattle.law_frame_readings.specs.law_world_views.Between.{HasInputLine, IsInput}
use Rattle.law_frame_readings.specs.law_port_facts.Port.{setup_port}
use Rattle.law_frame_readings.proofs.law_port_facts.Keyed.{at_map}
use Rattle.law_ownership.specs.Copies.{CopiesAreInOrder}
use Rattle.law_ownership.specs.Order.{IsBefore, concerns, IsLabelInput}
use Rattle.law_ownership.proofs.Matching.{Matches, none, silent, apart, says, order_matched}

-- a request that concerns the input is one of those of its line
if_some : {X : Type 0} (b : Bool) (x : X) → b ≡ true → is_some (if b then Some x else None) ≡ true
if_some true x e = refl
if_some false x e = absurd (cc e)

concerned : (input : End) (request : Request) → concerns input request ≡ true → is_some (own_request input request) ≡ true
concerned input (AddBranch on output) e = if_some (same_end input on) (lines.AddBranch output) e
concerned input (MoveBranch on from to) e = if_some (same_end input on) (lines.MoveBranch from to) e
concerned input (DeleteTree on) e = if_some (same_end input on) lines.DeleteTree e
concerned input (VerifyTree on) e = absurd (cc e)
concerned input (requests.DeleteAll port) e = if_some (port.0 == input.port.0) lines.DeleteAll e
concerned input (PortManagement port function) e = absurd (cc e)
concerned input requests.AllPorts e = absurd (cc e)

-- the label of a port of a link
label_input : (c : Controller) (input : End) → IsLabelInput c input → IsInput c input
label_input c input label = record {
  setup = label.linked.setup;
  number = label.number;
  linked = at_map port_key setup_port (λ (linked : Linked). linked.setup) (λ linked. refl) label.linked.setup.port.0 c.ports
      ∙ ap (λ (o : Option Linked). option_map (λ linked. linked.setup) o) label.there;
  in_range = label.in_range;
  is = label.is;
}

some_is : {X : Type 0} (x y : X) → Some x ≡ Some y → x ≡ y
some_is x y e = cc

-- of copies that concern the input and were all asked under one instance
abbrev IsAfter : (earlier later : lines.ToSwitch) → Type 0
IsAfter (lines.Copy under number (lines.OnInput request)) (lines.Copy other later (lines.OnInput next)) = number ≤ later
IsAfter earlier later = Unit {0}

all_under : (own : ℕ) (v w : lines.ToSwitch) → IsAskedUnder own v → IsAskedUnder own w → laws.IsBefore v w → IsAfter v w
all_under own v w p q r = grind arith

-- the word itself
unerased : (v : lines.ToSwitch) (n : ℕ) (q : lines.Request) → Word (lines.Copy 0 n q) ≡ Word (erased v) → (under : ℕ) × (v ≡ lines.Copy under n q)
unerased (lines.ControllerGreets kind sender receiver) n q e = absurd (cc e)
unerased (lines.Copy under number request) n q e = (under, cc e)

own_is : (o : Option lines.InputRequest) (t : ℕ) → is_some o ≡ true → (r : lines.InputRequest) × (word_by o t ≡ lines.OnInput r)
own_is None t e = absurd (cc e)
own_is (Some r) t e = (r, refl)

module _ (node : NodeId) (input : End) (frames : List Frame) where
  -- a cell of GSMP's channel says a word, or it is silent
  abbrev said : Cell → Seen lines.ToSwitch
  said c = seen_on_gsmp (seen_request (controller_of node) (switch_of node) input) c.header.last (payload_of frames c.mark)

  abbrev Silent : Cell → Type 0
  Silent c = said c ≡ Nothing

  abbrev Says : Cell → lines.ToSwitch → Type 0
  Says c v = said c ≡ Word (erased v)

  abbrev Match : List Cell → List lines.ToSwitch → Type 0
  Match cells words = Matches Silent Says cells words

  abbrev on : Cell → Bool
  on c = same_channel c.header.channel default_channel

  abbrev shown : Cell → Seen lines.ToSwitch
  shown c = seen_cell (seen_request (controller_of node) (switch_of node) input) frames c

  shown_on : (c : Cell) → on c ≡ true → shown c ≡ said c
  shown_on c t = ap (λ (b : Bool). if b then said c else Nothing) t

  hidden_at : (cell : Cell) (cells : List Cell) (words : List lines.ToSwitch) → shown cell ≡ Nothing → Match (filter on cells) words
      → (b : Bool) → on cell ≡ b → Match (if b then cell ∷ filter on cells else filter on cells) words
  hidden_at cell cells words e rest true t = silent (sym (shown_on cell t) ∙ e) rest
  hidden_at cell cells words e rest false t = rest

  word_at : (cell : Cell) (cells : List Cell) (v : lines.ToSwitch) (words : List lines.ToSwitch) → shown cell ≡ Word (erased v) → Match (filter on cells) words
      → (b : Bool) → on cell ≡ b → Match (if b then cell ∷ filter on cells else filter on cells) (v ∷ words)
  word_at cell cells v words e rest true t = says (sym (shown_on cell t) ∙ e) rest
  word_at cell cells v words e rest false t = apart rest

  shown_matches : (cells : List Cell) (words : List lines.ToSwitch) → ShowsRequests node input frames cells words → Match (on_channel default_channel cells) words
  shown_matches [] [] nothing = none
  shown_matches [] (v ∷ words) shows = elim shows [ ]
  shown_matches (cell ∷ cells) words (hidden e more) = hidden_at cell cells words e (shown_matches cells words more) (on cell) refl
  shown_matches (cell ∷ cells) (v ∷ words) (word e more) = word_at cell cells v words e (shown_matches cells words more) (on cell) refl

  -- *A copy* says itself
  abbrev word_for : Standing → Seen lines.ToSwitch
  word_for s = Word (lines.Copy 0 s.number (word_of input s.request))

  in_message : (last : Bool) (m : Message) (s : Standing) → copy_of m ≡ Some s → seen_request (controller_of node) (switch_of node) input last (Some m) ≡ word_for s
  in_message last (Adjacency greeting) s e = absurd (cc e)
  in_message last (Branch kind result code transaction session input_port channel output_port output branches priority) s e = ap (seen_copy input) e
  in_message last (Move result code transaction session input_port channel output_port output target_port target branches priority) s e = ap (seen_copy input) e
  in_message last (Port result code transaction port session function) s e = ap (seen_copy input) e
  in_message last (AllPorts result code transaction rows) s e = ap (seen_copy input) e

  in_payload : (last : Bool) (o : Option Message) (s : Standing) → option_and_then copy_of o ≡ Some s → seen_request (controller_of node) (switch_of node) input last o ≡ word_for s
  in_payload last None s e = absurd (cc e)
  in_payload last (Some m) s e = in_message last m s e

  at_mark : (last : Bool) (o : Option (List ℕ)) (s : Standing) → option_and_then copy_of (option_and_then gsmp_of o) ≡ Some s
      → seen_on_gsmp (seen_request (controller_of node) (switch_of node) input) last o ≡ word_for s
  at_mark last None s e = absurd (cc e)
  at_mark last (Some payload) s e = in_payload last (gsmp_of payload) s e

  copy_says : (c : Cell) (s : Standing) → copy_under frames c.mark ≡ Some s → said c ≡ word_for s
  copy_says c s e = at_mark c.header.last (payload_of frames c.mark) s e

  -- the word of a cell that is a copy which concerns the input
  own_word : (c : Cell) (v : lines.ToSwitch) (s : Standing) → Says c v → copy_under frames c.mark ≡ Some s → concerns input s.request ≡ true
      → (under : ℕ) × (r : lines.InputRequest) × (v ≡ lines.Copy under s.number (lines.OnInput r))
  own_word c v s h copy own =
      let u : (under : ℕ) × (v ≡ lines.Copy under s.number (word_of input s.request)) = unerased v s.number (word_of input s.request) (sym (copy_says c s copy) ∙ h) in
      let o : (r : lines.InputRequest) × (word_of input s.request ≡ lines.OnInput r) = own_is (own_request input s.request) (type_of s.request) (concerned input s.request own) in
      (u.0, o.0, u.1 ∙ ap (λ (q : lines.Request). lines.Copy u.0 s.number q) o.1)

  not_silent : (c : Cell) (s : Standing) → Silent c → copy_under frames c.mark ≡ Some s → ⊥
  not_silent c s quiet copy = cc (sym (copy_says c s copy) ∙ quiet)

  both : (one other : Cell) (v w : lines.ToSwitch) → Says one v → Says other w → IsAfter v w → IsBefore frames input one other
  both one other v w h k after s t copy next own also =
      let a : (under : ℕ) × (r : lines.InputRequest) × (v ≡ lines.Copy under s.number (lines.OnInput r)) = own_word one v s h copy own in
      let b : (under : ℕ) × (r : lines.InputRequest) × (w ≡ lines.Copy under t.number (lines.OnInput r)) = own_word other w t k next also in
      subst (λ (x : lines.ToSwitch). IsAfter (lines.Copy a.0 s.number (lines.OnInput a.1)) x) b.2 (subst (λ (x : lines.ToSwitch). IsAfter x w) a.2 after)

  pub copies_ordered : (cells : List Cell) (words : List lines.ToSwitch) → ShowsRequests node input frames cells words → InOrder IsAfter words
      → InOrder (IsBefore frames input) (on_channel default_channel cells)
  copies_ordered cells words shows ordered = order_matched IsAfter (IsBefore frames input)
      (λ one other quiet s t copy next own also. absurd (not_silent one s quiet copy))
      (λ one other quiet s t copy next own also. absurd (not_silent other t quiet next))
      both (shown_matches cells words shows) ordered

-- *Each input*
pub copies_in_order : Always HasOnlyNewInEstab → Always laws.CopiesAreInOrder → CopiesAreInOrder
copies_in_order only_new ordered past kept node site found estab input is = subst (λ (cells : List Cell). InOrder (IsBefore past.now.notes.frames input) (on_channel default_channel cells)) (sym on_way)
    (copies_ordered node input past.now.notes.frames (site.switch.reassembly.chain ++ site.controller.queue) (way_to_switch line) (shows_join h.shows.at_switch h.shows.to_switch)
    (order_map laws.IsBefore IsAfter (IsAskedUnder line.controller.adjacency.own) (way_to_switch line) (λ v w p q r. all_under line.controller.adjacency.own v w p q r) (new line_estab).requests in_order))
  where
    h : HasInputLine past.now node site input
    h = kept.world.inputs node site found input (label_input site.controller input is)

    line : Line
    line = h.line

    reached : (P : Line → Type 0) → Always P → P line
    reached P law = subst P h.reached.is (law h.reached.controller h.reached.switch h.reached.fresh h.reached.ports_before h.reached.ports_behind h.reached.positive h.reached.controller_drawn h.reached.switch_drawn h.reached.moves)

    new : HasOnlyNewInEstab line
    new = reached HasOnlyNewInEstab only_new

    in_order : InOrder laws.IsBefore (way_to_switch line)
    in_order = reached laws.CopiesAreInOrder ordered

    line_estab : line.controller.adjacency.state ≡ Estab
    line_estab = sym (ap (λ (s : Side Party). s.state) h.shows.controller) ∙ estab

    on_way : to_switch past.now node ≡ site.switch.reassembly.chain ++ site.controller.queue
    on_way = ap (λ (o : Option Site). option_map_or (λ site. site.switch.reassembly.chain) o [] ++ option_map_or (λ site. queue_in site (Down node)) o []) found
