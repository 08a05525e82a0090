-- what the downstream end does with the label (RFC 1953)

use Rattle.std.specs.Prelude.{ℕ, Bool, true, false, List, [], ◌∷◌, ◌++◌, ◌+◌, ◌&&◌, if◌then◌else◌, nat_eq, nat_lt}
use Rattle.net_types.specs.declared.adjacency.HelloKind.{HelloKind}
use Rattle.net_types.specs.declared.adjacency.HelloKind.TheVariants.{Ack}
use Rattle.adjacency_table.specs.declared.State.TheVariants.{Clearing, SynSent}
use Rattle.adjacency_table.specs.Table.{Row, Reply, Says, Resets}
use Rattle.adjacency_table.specs.Side.{is_estab}
use Rattle.adjacency_table.specs.Instances.{begun, row_for, enters, after_row, is_reset}
use Rattle.law_label_line.specs.Cells.{Downstream, Upstream, Message, Hello, Redirect, Reclaim, ReclaimAck, Other, Cell, hello, Labelled, Default, frame, put, chained}
use Rattle.law_label_line.specs.Line.{Label, Spare, Wiring, Offered, Recalled, Wired, is_bound, is_clearing, also_under, is_from_peer, Line}

-- it sends a redirection message under its next number
abbrev pub sends_numbered : Line → Message → Line
sends_numbered line message = record line {
  number = line.number + 1;
  to_upstream = put line.to_upstream (frame message);
}

abbrev pub sends_redirect : Line → Line
sends_redirect line =
    sends_numbered line (Redirect line.downstream.own line.downstream.stored line.number line.flow)

abbrev pub sends_reclaim : Line → Line
sends_reclaim line =
    sends_numbered line (Reclaim line.downstream.own line.downstream.stored line.number line.flow)

-- a redirection message that isn't of the label
abbrev pub sends_other : Line → Line
sends_other line =
    if is_estab line.downstream.state
    then sends_numbered line (Other line.downstream.own line.downstream.stored line.number)
    else line

-- a spare label of an open pool is taken for a flow
abbrev pub wire : Line → Label → ℕ → Line
wire line Spare flow = if is_estab line.downstream.state then record line { label = Wiring flow } else line
wire line _ flow = line

-- its branch is made: it is bound, and REDIRECT is sent
abbrev pub bind : Line → Label → Line
bind line (Wiring flow) = sends_redirect (record line { label = Offered; flow = flow })
bind line _ = line

-- REDIRECT is sent again
abbrev pub refresh : Line → Label → Line
refresh line Offered = sends_redirect line
refresh line _ = line

-- RECLAIM is sent, and its number kept as the label's last
abbrev pub recall : Line → Label → Line
recall line Offered = sends_reclaim (record line { label = Recalled line.number false })
recall line _ = line

-- RECLAIM is sent again as long as it isn't acknowledged
abbrev pub recall_again : Line → Label → Line
recall_again line (Recalled last false) = sends_reclaim (record line { label = Recalled line.number false })
recall_again line _ = line

-- RECLAIM ACK is taken where it is of the flow to which the label is bound
abbrev pub acknowledge : Line → Label → (flow : ℕ) → Line
acknowledge line (Recalled last _) flow =
    if nat_eq flow line.flow then record line { label = Recalled last true } else line
acknowledge line _ flow = line

-- the label is quit once it is acknowledged and the peer's number says that its last RECLAIM can't
-- be on the way any more; what was reassembled of its channel is cut
abbrev pub quit : Line → Label → Line
quit line (Recalled last true) =
    if nat_lt last line.known then record line { label = Wired; reassembly = [] } else line
quit line _ = line

-- its branch is deleted: it may be offered again
abbrev pub free : Line → Label → Line
free line Wired = record line { label = Spare }
free line _ = line

-- a cell of the label's channel comes: it is reassembled where the label is bound
abbrev pub takes_labelled : Line → (flow : ℕ) → List Cell → Line
takes_labelled line flow rest = record line {
  reassembly = if is_bound line.label then line.reassembly ++ (flow ∷ []) else line.reassembly;
  to_downstream = record (line.to_downstream) { to_controller = rest };
}

abbrev pub takes_cell : Line → List Cell → Line
takes_cell line [] = line
takes_cell line (Labelled flow ∷ rest) = takes_labelled line flow rest
takes_cell line (Default last message ∷ rest) =
    record line { to_downstream = chained line.to_downstream (Default last message) rest }

-- a reset: the pool and the label are given up, and a new instance is drawn; other ports may have
-- drawn some before
abbrev pub resets_downstream : Line → (drawn : ℕ) → Line
resets_downstream line drawn = record line {
  downstream = begun Clearing (line.fresh + drawn);
  fresh = line.fresh + drawn + 1;
  label = Spare;
  number = 1;
  known = 1;
  reassembly = [];
}

-- the pool opens, with the label spare and all numbers 1
abbrev pub opens : Line → Line
opens line = record line { label = Spare; number = 1; known = 1; reassembly = [] }

abbrev pub follows_downstream : Line → Row → (sender : ℕ) → Line
follows_downstream line row sender =
    record (if enters line.downstream row then opens line else line)
    { downstream = after_row line.downstream row sender }

abbrev pub is_ack : HelloKind → Bool
is_ack Ack = true
is_ack _ = false

-- a good ACK is one with both instances right; the greatest number that it said is kept
abbrev pub learns : Line → (good : Bool) → (next : ℕ) → Line
learns line good next = if good && nat_lt line.known next then record line { known = next } else line

-- its peer's numbers aren't followed, so it expects 1
abbrev pub replies_downstream : Line → Reply → (sender receiver : ℕ) → Line
replies_downstream line (Says kind) sender receiver =
    record line { to_upstream = put line.to_upstream (frame (hello Downstream 1 line.downstream kind sender receiver)) }
replies_downstream line _ sender receiver = line

-- an adjacency message comes, at a row of the table
abbrev pub greeted_downstream : Line → Row → HelloKind → (sender receiver next drawn : ℕ) → Line
greeted_downstream line row kind sender receiver next drawn =
    if is_reset row.reply
    then resets_downstream line drawn
    else replies_downstream
    (learns (follows_downstream line row sender) (row.clears_silence && is_ack kind) next) row.reply sender receiver

abbrev pub downstream_hears : Line → Message → (drawn : ℕ) → Line
downstream_hears line (Hello Upstream kind sender receiver next) drawn =
    greeted_downstream line (row_for line.downstream kind sender receiver) kind sender receiver next drawn
downstream_hears line (ReclaimAck sender receiver flow) drawn =
    if is_from_peer line.downstream sender receiver then acknowledge line line.label flow else line
downstream_hears line _ drawn = line

-- the message at the front of its chain is heard
abbrev pub hears_downstream : Line → List Cell → (drawn : ℕ) → Line
hears_downstream line (Default true message ∷ rest) drawn =
    downstream_hears (record line { to_downstream = record (line.to_downstream) { chain = rest } }) message drawn
hears_downstream line _ drawn = line

-- a tick; the reset for silence may come at any time in Estab
abbrev pub ticks_downstream : Line → Reply → (drawn : ℕ) → Line
ticks_downstream line Resets drawn = resets_downstream line drawn
ticks_downstream line reply drawn = replies_downstream line reply 0 0

-- its port is cleared
abbrev pub clears_downstream : Line → Line
clears_downstream line =
    if is_clearing line.downstream.state
    then record line {
      downstream = record (line.downstream) { state = SynSent };
      downstream_cleared = also_under line.downstream.own line.downstream_cleared;
    }
    else line
