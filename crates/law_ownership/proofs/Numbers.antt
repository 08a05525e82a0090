-- the order of a line's words is that of the cells which say them

use Rattle.std.proofs.Common.{◌≡◌, ℕ, ◌<◌, ◌≤◌, Bool, true, List, Option, None, Some, refl, sym}
use Rattle.std.specs.Option.{option_and_then}
use Rattle.law_frame_readings.specs.world_model.Words.{Hello, Ack, Cell, Frame, ifmp_under, Numbered}
use Rattle.law_frame_readings.specs.world_model.ifmp_wire.declared.message.Message.{Message}
use Rattle.law_frame_readings.specs.world_model.ifmp_wire.declared.message.Message.TheVariants.{Adjacency}
use Rattle.law_frame_readings.specs.ordered_lists.Ordered.{Every, InOrder}
use Rattle.law_frame_readings.proofs.ordered_lists.Every.{every_map}
use Rattle.law_label_line.specs.Cells as lines
use Rattle.law_label_line.specs.Cells.{Downstream, Upstream}
use Rattle.law_label_line.specs.Law.{IfNumbered, IsAbove, IsFrom, IsFromSaid}
use Rattle.law_label_line.specs.Law as laws
use Rattle.law_frame_readings.specs.world_model.Sent.{numbered}
use Rattle.law_frame_readings.specs.law_port_views.Link.{LinkLabel}
use Rattle.law_ownership.specs.Order.{Rises}
use Rattle.law_ownership.proofs.Matching.{Matches, every_matched, order_matched}
use Rattle.law_ownership.proofs.Heard.{Silent, Says, heard_as, heard_nothing, never_silent, asked_of, ack_of, ack_never_silent}

-- a number has a message
numbered_by : (o : Option Message) (n : Numbered) → option_and_then numbered o ≡ Some n → (m : Message) × (o ≡ Some m) × (numbered m ≡ Some n)
numbered_by None n e = absurd (cc e)
numbered_by (Some m) n e = (m, refl, e)

-- a redirection message between these instances has no lesser number than this
abbrev pub IsNotBelow : List Frame → (sender peer least : ℕ) → Cell → Type 0
IsNotBelow frames sender peer least c = (m : Message) (n : Numbered) → ifmp_under frames c.mark ≡ Some m → numbered m ≡ Some n
    → n.sender.0 ≡ sender → n.peer.0 ≡ peer → least ≤ n.number

-- nor than an ACK says
abbrev pub IsAckFor : List Frame → (cells : List Cell) → Cell → Type 0
IsAckFor frames cells c = (hello : Hello) → ifmp_under frames c.mark ≡ Some (Adjacency hello) → hello.kind ≡ Ack
    → Every (IsNotBelow frames hello.peer.0 hello.sender.0 hello.next) cells

module _ (link : LinkLabel) (frames : List Frame) where
  abbrev FromDown : List Cell → List lines.Cell → Type 0
  FromDown cells words = Matches (Silent Downstream link frames) (Says Downstream link frames) cells words

  abbrev FromUp : List Cell → List lines.Cell → Type 0
  FromUp cells words = Matches (Silent Upstream link frames) (Says Upstream link frames) cells words

  read_number : (Asked : Bool → (sender receiver number : ℕ) → Type 0) (c : Cell) (word : lines.Cell) → Says Downstream link frames c word → IfNumbered Asked word
      → (m : Message) (n : Numbered) → ifmp_under frames c.mark ≡ Some m → numbered m ≡ Some n → Asked c.header.last n.sender.0 n.peer.0 n.number
  read_number Asked c word said asked m n under is = asked_of link.label c.header.last Asked word asked m n is (heard_as Downstream link frames c m under word said)

  not_silent : (c : Cell) → Silent Downstream link frames c → (m : Message) → ifmp_under frames c.mark ≡ Some m → ⊥
  not_silent c quiet m under = never_silent link.label c.header.last m (heard_nothing Downstream link frames c m under quiet)

  rises_said : (one other : Cell) (word later : lines.Cell) → Says Downstream link frames one word → Says Downstream link frames other later → laws.Rises word later → Rises frames one other
  rises_said one other word later said also rises n k first second same =
      let m : _ = numbered_by (ifmp_under frames one.mark) n first in
      let o : _ = numbered_by (ifmp_under frames other.mark) k second in
      read_number (λ whole by to number. by ≡ n.sender.0 → (n.number ≤ number) × (one.header.last ≡ true → n.number < number)) other later also
      (read_number (λ last sender receiver number. IsAbove last sender number later) one word said rises m.0 n m.1 m.2)
      o.0 k o.1 o.2 (sym same)

  pub rising : {cells : List Cell} {words : List lines.Cell} → FromDown cells words → InOrder laws.Rises words → InOrder (Rises frames) cells
  rising m ordered = order_matched laws.Rises (Rises frames)
      (λ one other quiet n k first second same. (let o : _ = numbered_by (ifmp_under frames one.mark) n first in absurd (not_silent one quiet o.0 o.1)))
      (λ one other quiet n k first second same. (let o : _ = numbered_by (ifmp_under frames other.mark) k second in absurd (not_silent other quiet o.0 o.1)))
      rises_said m ordered

  pub not_below : (sender peer least : ℕ) → {cells : List Cell} {words : List lines.Cell} → FromDown cells words → Every (IsFrom sender peer least) words
      → Every (IsNotBelow frames sender peer least) cells
  not_below sender peer least m all = every_matched (IsFrom sender peer least) (IsNotBelow frames sender peer least)
      (λ c quiet m n under is by to. absurd (not_silent c quiet m under))
      (λ c word said from m n under is. read_number (λ last by to number. by ≡ sender → to ≡ peer → least ≤ number) c word said from m n under is)
      m all

  pub acks : {cells back : List Cell} {words back_words : List lines.Cell} → FromDown cells words → FromUp back back_words
      → Every (λ ack. Every (IsFromSaid ack) words) back_words → Every (IsAckFor frames cells) back
  acks {cells} {back} {words} m n all = every_matched (λ ack. Every (IsFromSaid ack) words) (IsAckFor frames cells)
      (λ c quiet hello under kind. absurd (ack_never_silent link.label c.header.last hello (heard_nothing Upstream link frames c (Adjacency hello) under quiet)))
      (λ c word said each hello under kind. not_below hello.peer.0 hello.sender.0 hello.next m
      (every_map (IsFromSaid (lines.Default c.header.last (lines.Hello Upstream Ack hello.sender.0 hello.peer.0 hello.next))) (IsFrom hello.peer.0 hello.sender.0 hello.next)
      words (λ x from. from)
      (ack_of link.label c.header.last (λ ack. Every (IsFromSaid ack) words) word hello kind (heard_as Upstream link frames c (Adjacency hello) under word said) each)))
      n all
