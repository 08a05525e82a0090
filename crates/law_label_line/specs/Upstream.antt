-- what the upstream end does with a grant of the label (RFC 1953)

use Rattle.std.specs.Prelude.{ℕ, Bool, true, false, List, [], ◌∷◌, ◌++◌, ◌+◌, ◌&&◌, if◌then◌else◌, nat_eq, nat_le}
use Rattle.adjacency_table.specs.declared.State.TheVariants.{Clearing, SynSent}
use Rattle.adjacency_table.specs.Table.{Row, Reply, Says, Resets}
use Rattle.adjacency_table.specs.Instances.{begun, row_for, enters, after_row, is_reset}
use Rattle.law_label_line.specs.Cells.{Downstream, Upstream, Message, Hello, Redirect, Reclaim, ReclaimAck, Other, Cell, hello, Labelled, Default, frame, put}
use Rattle.law_label_line.specs.Line.{Grant, NoGrant, Idle, ByController, ByInput, Leaving, is_clearing, also_under, is_from_peer, Line}

abbrev pub sends_downstream : Line → List Cell → Line
sends_downstream line new = record line { to_downstream = put line.to_downstream new }

-- a redirection message of the peer is taken at or above the expected number
abbrev pub takes : Line → (sender receiver number : ℕ) → Bool
takes line sender receiver number = is_from_peer line.upstream sender receiver && nat_le line.expected number

abbrev pub expects : Line → (number : ℕ) → Line
expects line number = record line { expected = number + 1 }

-- REDIRECT of a label without a grant makes one where there is room for it and the label is in
-- range; of a label with one it changes only lifetimes
abbrev pub redirected : Line → Grant → (room : Bool) → (flow : ℕ) → Line
redirected line NoGrant true flow = record line { grant = Idle flow }
redirected line _ room flow = line

abbrev pub acknowledges : Line → (flow : ℕ) → Line
acknowledges line flow = sends_downstream line (frame (ReclaimAck line.upstream.own line.upstream.stored flow))

-- RECLAIM ends the grant and is acknowledged, where the flow is the grant's; with a join the
-- RECLAIM ACK is owed until the join is released
abbrev pub reclaimed : Line → Grant → (flow : ℕ) → Line
reclaimed line NoGrant flow = acknowledges line flow
reclaimed line (Idle granted) flow =
    if nat_eq flow granted then acknowledges (record line { grant = NoGrant }) flow else line
reclaimed line (ByController granted) flow =
    if nat_eq flow granted then acknowledges (record line { grant = NoGrant }) flow else line
reclaimed line (ByInput granted) flow =
    if nat_eq flow granted then record line { grant = Leaving granted true } else line
reclaimed line (Leaving granted owed) flow =
    if nat_eq flow granted then record line { grant = Leaving granted true } else line

-- the branch of a grant is made
abbrev pub started : Line → Grant → Line
started line (Idle flow) = record line { grant = ByController flow }
started line _ = line

-- an input of the switch is joined to the label
abbrev pub lent : Line → Grant → Line
lent line (ByController flow) = record line { grant = ByInput flow }
lent line _ = line

-- the join is released: the switch has no branch of it any more
abbrev pub released : Line → Grant → Line
released line (ByInput flow) = record line { grant = ByController flow }
released line (Leaving flow true) = acknowledges (record line { grant = NoGrant }) flow
released line (Leaving flow false) = record line { grant = NoGrant }
released line _ = line

-- the grant's lifetime ends
abbrev pub expired : Line → Grant → Line
expired line (Idle flow) = record line { grant = NoGrant }
expired line (ByController flow) = record line { grant = NoGrant }
expired line (ByInput flow) = record line { grant = Leaving flow false }
expired line _ = line

-- the controller sends a cell under the label
abbrev pub sends_labelled : Line → Grant → Line
sends_labelled line (ByController flow) = sends_downstream line (Labelled flow ∷ [])
sends_labelled line _ = line

-- the switch puts a cell of the joined input out under the label
abbrev pub joins : Line → (flow : ℕ) → Line
joins line flow = record line {
  to_downstream = record (line.to_downstream) { output = line.to_downstream.output ++ (Labelled flow ∷ []) };
}

abbrev pub switches_labelled : Line → Grant → Line
switches_labelled line (ByInput flow) = joins line flow
switches_labelled line (Leaving flow owed) = joins line flow
switches_labelled line _ = line

-- what a reset leaves of a grant: a join is still to be released, and no RECLAIM ACK is owed
abbrev pub left_of : Grant → Grant
left_of (ByInput flow) = Leaving flow false
left_of (Leaving flow owed) = Leaving flow false
left_of _ = NoGrant

abbrev pub resets_upstream : Line → (drawn : ℕ) → Line
resets_upstream line drawn = record line {
  upstream = begun Clearing (line.fresh + drawn);
  fresh = line.fresh + drawn + 1;
  expected = 1;
  grant = left_of line.grant;
}

abbrev pub replies_upstream : Line → Reply → (sender receiver : ℕ) → Line
replies_upstream line (Says kind) sender receiver =
    sends_downstream line (frame (hello Upstream line.expected line.upstream kind sender receiver))
replies_upstream line _ sender receiver = line

-- on entering Estab it expects 1
abbrev pub follows_upstream : Line → Row → (sender : ℕ) → Line
follows_upstream line row sender = record line {
  upstream = after_row line.upstream row sender;
  expected = if enters line.upstream row then 1 else line.expected;
}

-- an adjacency message comes, at a row of the table
abbrev pub greeted_upstream : Line → Row → (sender receiver drawn : ℕ) → Line
greeted_upstream line row sender receiver drawn =
    if is_reset row.reply
    then resets_upstream line drawn
    else replies_upstream (follows_upstream line row sender) row.reply sender receiver

abbrev pub upstream_hears : Line → Message → (room : Bool) → (drawn : ℕ) → Line
upstream_hears line (Hello Downstream kind sender receiver next) room drawn =
    greeted_upstream line (row_for line.upstream kind sender receiver) sender receiver drawn
upstream_hears line (Redirect sender receiver number flow) room drawn =
    if takes line sender receiver number then redirected (expects line number) line.grant room flow else line
upstream_hears line (Reclaim sender receiver number flow) room drawn =
    if takes line sender receiver number then reclaimed (expects line number) line.grant flow else line
upstream_hears line (Other sender receiver number) room drawn =
    if takes line sender receiver number then expects line number else line
upstream_hears line _ room drawn = line

-- the message at the front of its chain is heard
abbrev pub hears_upstream : Line → List Cell → (room : Bool) → (drawn : ℕ) → Line
hears_upstream line (Default true message ∷ rest) room drawn =
    upstream_hears (record line { to_upstream = record (line.to_upstream) { chain = rest } }) message room drawn
hears_upstream line _ room drawn = line

abbrev pub ticks_upstream : Line → Reply → (drawn : ℕ) → Line
ticks_upstream line Resets drawn = resets_upstream line drawn
ticks_upstream line reply drawn = replies_upstream line reply 0 0

-- its port is cleared once no grant is left
abbrev pub clears_upstream : Line → Grant → Line
clears_upstream line NoGrant =
    if is_clearing line.upstream.state
    then record line {
      upstream = record (line.upstream) { state = SynSent };
      upstream_cleared = also_under line.upstream.own line.upstream_cleared;
    }
    else line
clears_upstream line _ = line
