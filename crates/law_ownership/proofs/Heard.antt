-- what a cell of a default channel says of the line of a label, by the message of its frame

use Rattle.std.proofs.Common.{◌≡◌, ℕ, Bool, true, false, zero, suc, List, [], ◌∷◌, ◌++◌, Option, None, Some, refl, sym, ◌∙◌, ap, subst, arith, if◌then◌else◌, filter, ◌⊎◌, inl, inr}
use Rattle.std.specs.Prelude.{Contains, ◌&&◌, ◌==◌}
use Rattle.std.specs.Option.{option_map, option_and_then}
use Rattle.law_frame_readings.specs.world_model.Words.{Hello, HelloKind, Ack, PortNo, label_channel_of, Cell, source_of, default_unwrapped, Redirect, Reclaim, ReclaimAck, LabelRange, Error, Frame, payload_of, default_channel, default_home, same_channel, ifmp_in, ifmp_of, ifmp_under, on_channel, Numbered}
use Rattle.law_frame_readings.specs.world_model.ifmp_wire.declared.message.Message.{Message}
use Rattle.law_frame_readings.specs.world_model.ifmp_wire.declared.message.Message.TheVariants.{Adjacency}
use Rattle.law_frame_readings.specs.world_model.Ways.{ok_of}
use Rattle.law_frame_readings.specs.world_model.Sent.{numbered}
use Rattle.law_label_line.specs.Cells as lines
use Rattle.law_label_line.specs.Cells.{Role, Downstream, Upstream}
use Rattle.law_label_line.specs.Law.{IfNumbered}
use Rattle.law_frame_readings.specs.law_port_views.Link.{LinkLabel, other}
use Rattle.law_frame_readings.specs.law_port_views.Heard.{heard_by, names, is_own}
use Rattle.law_frame_readings.specs.law_port_views.Flows.{flow_number}
use Rattle.law_frame_readings.specs.law_shown_cells.Seen.{Seen, Nothing, Word, Unknown, nothing, hidden, word}
use Rattle.law_frame_readings.specs.law_shown_cells.Label.{Told, told_in, told_of, seen_packet, seen_payload, seen_message, Where, OnLink, OnControl, channel_at, on_label, seen, erased, ShowsCells}
use Rattle.law_ownership.proofs.Matching.{Matches, none, silent, apart, says, matches_join}

some_is : {X : Type 0} (x y : X) → Some x ≡ Some y → x ≡ y
some_is x y e = cc

module _ (by : Role) (link : LinkLabel) (frames : List Frame) where
  -- a cell of a default channel says a word, or it is silent
  abbrev pub Silent : Cell → Type 0
  Silent c = seen_payload by link c.header.last (payload_of frames c.mark) ≡ Nothing

  abbrev pub Says : Cell → lines.Cell → Type 0
  Says c w = seen_payload by link c.header.last (payload_of frames c.mark) ≡ Word (erased w)

  abbrev Match : List Cell → List lines.Cell → Type 0
  Match cells words = Matches Silent Says cells words

  -- *Of what a list shows*, its cells of the default channel say the words
  module _ (place : Where) where
    abbrev on : Cell → Bool
    on c = same_channel c.header.channel (channel_at place default_channel)

    abbrev off : Cell → Seen lines.Cell
    off c = if same_channel c.header.channel (channel_at place (label_channel_of link.label)) then on_label by else Nothing

    seen_on : (c : Cell) → on c ≡ true → seen place by link frames c ≡ seen_payload by link c.header.last (payload_of frames c.mark)
    seen_on c t = ap (λ (b : Bool). if b then seen_payload by link c.header.last (payload_of frames c.mark) else off c) t

    hidden_at : (cell : Cell) (cells : List Cell) (words : List lines.Cell) → seen place by link frames cell ≡ Nothing → Match (filter on cells) words
        → (b : Bool) → on cell ≡ b → Match (if b then cell ∷ filter on cells else filter on cells) words
    hidden_at cell cells words e rest true t = silent (sym (seen_on cell t) ∙ e) rest
    hidden_at cell cells words e rest false t = rest

    word_at : (cell : Cell) (cells : List Cell) (w : lines.Cell) (words : List lines.Cell) → seen place by link frames cell ≡ Word (erased w) → Match (filter on cells) words
        → (b : Bool) → on cell ≡ b → Match (if b then cell ∷ filter on cells else filter on cells) (w ∷ words)
    word_at cell cells w words e rest true t = says (sym (seen_on cell t) ∙ e) rest
    word_at cell cells w words e rest false t = apart rest

    pub shown_matches : (cells : List Cell) (words : List lines.Cell) → ShowsCells place by link frames cells words
        → Match (on_channel (channel_at place default_channel) cells) words
    shown_matches [] [] nothing = none
    shown_matches [] (w ∷ words) shows = elim shows [ ]
    shown_matches (cell ∷ cells) words (hidden e more) = hidden_at cell cells words e (shown_matches cells words more) (on cell) refl
    shown_matches (cell ∷ cells) (w ∷ words) (word e more) = word_at cell cells w words e (shown_matches cells words more) (on cell) refl

  kept_all : (f : Cell → Bool) (xs : List Cell) → ((c : Cell) → Contains xs c → f c ≡ true) → filter f xs ≡ xs
  kept_all f [] all = refl
  kept_all f (x ∷ xs) all = ap (λ (b : Bool). if b then x ∷ filter f xs else filter f xs) (all x (zero, omega arith, refl))
      ∙ ap (λ (ys : List Cell). x ∷ ys) (kept_all f xs (λ c has. all c (suc has.0, omega (arith, has.1), has.2)))

  -- *A whole way*, from the port it goes to back to the one it comes from
  pub way_matches : (to from : PortNo) (way : lines.Way) (chain up out down : List Cell)
      → ((c : Cell) → Contains chain c → same_channel c.header.channel (default_home to).channel ≡ true)
      → ShowsCells (OnControl to) by link frames chain way.chain → ShowsCells (OnControl to) by link frames up way.to_controller
      → ShowsCells OnLink by link frames out way.output → ShowsCells (OnControl from) by link frames down way.to_switch
      → Match (chain ++ (on_channel (default_home to).channel up ++ (on_channel default_channel out ++ on_channel (default_home from).channel down))) (lines.cells way)
  way_matches to from way chain up out down all in_chain in_up in_out in_down = matches_join chained
      (matches_join (shown_matches (OnControl to) up way.to_controller in_up)
      (matches_join (shown_matches OnLink out way.output in_out) (shown_matches (OnControl from) down way.to_switch in_down)))
    where
      chained : Match chain way.chain
      chained = subst (λ (cells : List Cell). Match cells way.chain) (kept_all (λ c. same_channel c.header.channel (default_home to).channel) chain all)
          (shown_matches (OnControl to) chain way.chain in_chain)

  -- *What a cell's message is heard as*
  module _ (c : Cell) (m : Message) (under : ifmp_under frames c.mark ≡ Some m) where
    told_is : (o : Option (List ℕ)) → option_and_then ifmp_in o ≡ Some m → (item : Told) × (option_and_then told_in o ≡ Some item) × (item.message ≡ m)
    told_is None e = absurd (cc e)
    told_is (Some packet) e = (record { source = source_of packet; message = m }, ap (option_map (λ message. record { source = source_of packet; message = message })) e, refl)

    abbrev heard : Seen lines.Cell
    heard = seen_message c.header.last (heard_by by link.label m)

    abbrev Heard : Seen lines.Cell → Type 0
    Heard found = (found ≡ heard) ⊎ (found ≡ Unknown)

    told_payload : (payload : List ℕ) → ifmp_of payload ≡ Some m → (item : Told) × (told_of payload ≡ Some item) × (item.message ≡ m)
    told_payload payload e = told_is (ok_of (default_unwrapped payload)) e

    by_own : (item : Told) → item.message ≡ m → (b : Bool) → Heard (if b then seen_message c.header.last (heard_by by link.label item.message) else Unknown)
    by_own item same true = inl (ap (λ (y : Message). seen_message c.header.last (heard_by by link.label y)) same)
    by_own item same false = inr refl

    in_packet : (o : Option Told) (item : Told) → o ≡ Some item → item.message ≡ m → Heard (seen_packet by link c.header.last o)
    in_packet o item is same = subst (λ (x : Option Told). Heard (seen_packet by link c.header.last x)) (sym is)
        (by_own item same ((item.source.0 == (link.address by).0) && is_own (link.address (other by)) item.message))

    at_payload : (o : Option (List ℕ)) → option_and_then ifmp_of o ≡ Some m → Heard (seen_payload by link c.header.last o)
    at_payload None e = absurd (cc e)
    at_payload (Some payload) e = in_packet (told_of payload) (told_payload payload e).0 (told_payload payload e).1 (told_payload payload e).2

    is_heard : Heard (seen_payload by link c.header.last (payload_of frames c.mark))
    is_heard = at_payload (payload_of frames c.mark) under

    pub heard_as : (w : lines.Cell) → Says c w → heard ≡ Word (erased w)
    heard_as w said = elim is_heard [
      | inl e ↦ sym e ∙ said
      | inr e ↦ absurd (cc (sym e ∙ said))
    ]

    pub heard_nothing : Silent c → heard ≡ Nothing
    heard_nothing quiet = elim is_heard [
      | inl e ↦ sym e ∙ quiet
      | inr e ↦ absurd (cc (sym e ∙ quiet))
    ]

-- the word itself
unerased : (last : Bool) (x : lines.Message) (w : lines.Cell) → Word (lines.Default last x) ≡ Word (erased w) → w ≡ lines.Default last x
unerased last x (lines.Labelled flow) e = absurd (cc e)
unerased last x (lines.Default whole y) e = cc e

-- *A redirection message* of the downstream end is one of its words, whatever label it is of
module _ (label : ℕ) (last : Bool) where
  pub never_silent : (m : Message) → seen_message last (heard_by Downstream label m) ≡ Nothing → ⊥
  never_silent (Adjacency hello) e = cc e
  never_silent (Redirect sender peer number lifetime channel flow) e = cc e
  never_silent (Reclaim sender peer number channel flow) e = cc e
  never_silent (ReclaimAck sender peer number channel flow) e = cc e
  never_silent (LabelRange sender peer number least greatest) e = cc e
  never_silent (Error sender peer number code channel) e = cc e

  module _ (Asked : Bool → (sender receiver number : ℕ) → Type 0) (w : lines.Cell) (asked : IfNumbered Asked w) where
    abbrev AskedOf : Numbered → Type 0
    AskedOf n = Asked last n.sender.0 n.peer.0 n.number

    plain : (x : lines.Message) → seen_message last (Some x) ≡ Word (erased w) → IfNumbered Asked (lines.Default last x)
    plain x e = subst (IfNumbered Asked) (unerased last x w e) asked

    named : (b : Bool) (x : lines.Message) (s p n : ℕ) → seen_message last (Some (if b then x else lines.Other s p n)) ≡ Word (erased w)
        → (IfNumbered Asked (lines.Default last x) → Asked last s p n) → Asked last s p n
    named true x s p n e f = f (plain x e)
    named false x s p n e f = plain (lines.Other s p n) e

    pub asked_of : (m : Message) (n : Numbered) → numbered m ≡ Some n → seen_message last (heard_by Downstream label m) ≡ Word (erased w) → AskedOf n
    asked_of (Adjacency hello) n is e = absurd (cc is)
    asked_of (Redirect sender peer number lifetime channel flow) n is e = subst AskedOf (some_is _ n is)
        (named (names label channel) (lines.Redirect sender.0 peer.0 number (flow_number flow)) sender.0 peer.0 number e (λ h. h))
    asked_of (Reclaim sender peer number channel flow) n is e = subst AskedOf (some_is _ n is)
        (named (names label channel) (lines.Reclaim sender.0 peer.0 number (flow_number flow)) sender.0 peer.0 number e (λ h. h))
    asked_of (ReclaimAck sender peer number channel flow) n is e = subst AskedOf (some_is _ n is) (plain (lines.Other sender.0 peer.0 number) e)
    asked_of (LabelRange sender peer number least greatest) n is e = subst AskedOf (some_is _ n is) (plain (lines.Other sender.0 peer.0 number) e)
    asked_of (Error sender peer number code channel) n is e = subst AskedOf (some_is _ n is) (plain (lines.Other sender.0 peer.0 number) e)

  -- *An ACK* of the upstream end
  pub ack_of : (P : lines.Cell → Type 0) (w : lines.Cell) (hello : Hello) → hello.kind ≡ Ack → seen_message last (heard_by Upstream label (Adjacency hello)) ≡ Word (erased w)
      → P w → P (lines.Default last (lines.Hello Upstream Ack hello.sender.0 hello.peer.0 hello.next))
  ack_of P w hello ack e h = subst (λ (kind : HelloKind). P (lines.Default last (lines.Hello Upstream kind hello.sender.0 hello.peer.0 hello.next))) ack
      (subst P (unerased last (lines.Hello Upstream hello.kind hello.sender.0 hello.peer.0 hello.next) w e) h)

  pub ack_never_silent : (hello : Hello) → seen_message last (heard_by Upstream label (Adjacency hello)) ≡ Nothing → ⊥
  ack_never_silent hello e = cc e
