-- a cell comes to the default channel of the link's port: it joins the chain, or is given up, and so may the chain be

use Rattle.std.proofs.Common.{◌≡◌, ℕ, Bool, true, false, List, [], ◌∷◌, ◌++◌, Option, None, Some, refl, sym, ◌∙◌, ap, subst, append-nil, remove, if◌then◌else◌}
use Rattle.law_controller_views.specs.world_model.Words.{Cell, PortNo, Frame, payload_of, Journal, Reassembly, at, put, Action, Linked, port_key, linked_at, with_linked}
use Rattle.law_controller_views.proofs.law_port_facts.Keyed.{at_put_same}
use Rattle.law_controller_views.specs.law_label_line.Cells as lines
use Rattle.law_controller_views.specs.law_label_line.Cells.{Role, Downstream, Upstream, Way, InChain, ToController}
use Rattle.law_controller_views.specs.law_label_line.Downstream.{takes_cell}
use Rattle.law_controller_views.specs.law_label_line.Line.{Line}
use Rattle.law_controller_views.specs.law_label_line.Moves.{Reassemble, Lose, reassembles_upstream, step, run}
use Rattle.law_controller_views.specs.world_model.Controller.{Acted}
use Rattle.law_controller_views.specs.law_port_views.Link.{LinkLabel, other}
use Rattle.law_controller_views.specs.law_port_views.Shown.{Part, part_of, ShownAt}
use Rattle.law_controller_views.proofs.law_port_views.Reach.{run_join}
use Rattle.law_controller_views.specs.law_shown_cells.Seen.{Word, Unknown}
use Rattle.law_controller_views.specs.law_shown_cells.Label.{Told, OnControl, ShowsCells, erased, seen, seen_message, seen_packet, seen_payload, told_of}
use Rattle.law_controller_views.proofs.law_shown_cells.Shows.{First, no_word, a_word, shows_join, shows_behind, one_word, one_hidden}
use Rattle.law_controller_views.proofs.law_shown_cells.Frames.{seen_default}
use Rattle.law_controller_views.specs.Ends.{way_to, with_way, working, End, Pieces, Net, Goes, asking, placed}
use Rattle.law_controller_views.specs.Queues.{awaited}
use Rattle.law_controller_views.proofs.Parts.{both, own_end}
use Rattle.law_controller_views.proofs.Carried.{Moved}
use Rattle.law_controller_views.proofs.Works.{linked_is}
use Rattle.law_arrival_views.specs.Cells.{IsDefault}

-- *Moves on what came*: the chain, and what stands in front of the receiver
abbrev pub with_taken : Role → (chain waiting : List lines.Cell) → Line → Line
with_taken role chain waiting line = with_way role line (record (way_to role line) { chain = chain; to_controller = waiting })

pub moved_then : (a b c : Line) → Moved a b → Moved b c → Moved a c
moved_then a b c m n = record { moves = m.moves ++ n.moves; is = run_join a m.moves n.moves ∙ (ap (λ (z : Line). run z n.moves) m.is ∙ n.is) }

pub joins_chain : (role : Role) (line : Line) (last : Bool) (m : lines.Message) (us : List lines.Cell) → (way_to role line).to_controller ≡ lines.Default last m ∷ us
    → Moved line (with_taken role ((way_to role line).chain ++ lines.Default last m ∷ []) us line)
joins_chain Downstream line last m us e = record { moves = Reassemble Downstream ∷ []; is = ap (λ (z : List lines.Cell). takes_cell line z) e }
joins_chain Upstream line last m us e = record { moves = Reassemble Upstream ∷ []; is = ap (λ (z : List lines.Cell). reassembles_upstream line z) e }

pub leaves_front : (role : Role) (line : Line) (t : lines.Cell) (us : List lines.Cell) → (way_to role line).to_controller ≡ t ∷ us
    → Moved line (with_taken role (way_to role line).chain us line)
leaves_front Downstream line t us e = record {
  moves = Lose Downstream ToController 0 ∷ [];
  is = ap (λ (z : List lines.Cell). record line { to_downstream = record (line.to_downstream) { to_controller = remove z 0 } }) e;
}
leaves_front Upstream line t us e = record {
  moves = Lose Upstream ToController 0 ∷ [];
  is = ap (λ (z : List lines.Cell). record line { to_upstream = record (line.to_upstream) { to_controller = remove z 0 } }) e;
}

pub stays_front : (role : Role) (line : Line) (us : List lines.Cell) → (way_to role line).to_controller ≡ us → Moved line (with_taken role (way_to role line).chain us line)
stays_front Downstream line us e = record { moves = []; is = ap (λ (z : List lines.Cell). record line { to_downstream = record (line.to_downstream) { to_controller = z } }) e }
stays_front Upstream line us e = record { moves = []; is = ap (λ (z : List lines.Cell). record line { to_upstream = record (line.to_upstream) { to_controller = z } }) e }

-- the first words of the chain are lost
loses_first : (role : Role) (x : lines.Cell) (xs us : List lines.Cell) (line : Line) → step (with_taken role (x ∷ xs) us line) (Lose role InChain 0) ≡ with_taken role xs us line
loses_first Downstream x xs us line = refl
loses_first Upstream x xs us line = refl

pub empties : (role : Role) (xs ys us : List lines.Cell) (line : Line) → Moved (with_taken role (xs ++ ys) us line) (with_taken role ys us line)
empties role [] ys us line = record { moves = []; is = refl }
empties role (x ∷ xs) ys us line =
    let more : Moved (with_taken role (xs ++ ys) us line) (with_taken role ys us line) = empties role xs ys us line in
    record { moves = Lose role InChain 0 ∷ more.moves; is = ap (λ (z : Line). run z more.moves) (loses_first role x (xs ++ ys) us line) ∙ more.is }

pub empties_all : (role : Role) (xs us : List lines.Cell) (line : Line) → Moved (with_taken role xs us line) (with_taken role [] us line)
empties_all role xs us line = subst (λ (z : List lines.Cell). Moved (with_taken role z us line) (with_taken role [] us line)) (append-nil xs) (empties role xs [] us line)

-- *A word of the default channel* is of a message
pub record IsMessage (last : Bool) (t : lines.Cell) : Type 0 where
  pub message : lines.Message
  pub is : t ≡ lines.Default last message

erased_is : (last : Bool) (m : lines.Message) (t : lines.Cell) → erased t ≡ lines.Default last m → IsMessage last t
erased_is last m (lines.Labelled flow) e = absurd (cc e)
erased_is last m (lines.Default other_last n) e = record { message = m; is = e }

message_word : (last : Bool) (o : Option lines.Message) (t : lines.Cell) → seen_message last o ≡ Word (erased t) → IsMessage last t
message_word last None t e = absurd (cc e)
message_word last (Some m) t e = erased_is last m t (cc e)

tested_word : (b last : Bool) (o : Option lines.Message) (t : lines.Cell) → (if b then seen_message last o else Unknown) ≡ Word (erased t) → IsMessage last t
tested_word true last o t e = message_word last o t e
tested_word false last o t e = absurd (cc e)

packet_word : (by : Role) (link : LinkLabel) (last : Bool) (o : Option Told) (t : lines.Cell) → seen_packet by link last o ≡ Word (erased t) → IsMessage last t
packet_word by link last None t e = absurd (cc e)
packet_word by link last (Some item) t e = tested_word _ last _ t e

payload_word : (by : Role) (link : LinkLabel) (last : Bool) (o : Option (List ℕ)) (t : lines.Cell) → seen_payload by link last o ≡ Word (erased t) → IsMessage last t
payload_word by link last None t e = absurd (cc e)
payload_word by link last (Some payload) t e = packet_word by link last (told_of payload) t e

module _ (link : LinkLabel) (role : Role) (frames : List Frame) where
  abbrev pub Came : List Cell → List lines.Cell → Type 0
  Came cells words = ShowsCells (OnControl (link.port role)) (other role) link frames cells words

  abbrev pub FirstCame : Cell → List Cell → List lines.Cell → Type 0
  FirstCame c ws ts = First erased (seen (OnControl (link.port role)) (other role) link frames) c ws ts

  pub default_seen : (c : Cell) → IsDefault link role c → seen (OnControl (link.port role)) (other role) link frames c ≡ seen_payload (other role) link c.header.last (payload_of frames c.mark)
  default_seen c is = seen_default (OnControl (link.port role)) (other role) link frames c c.mark c.header.last (is, refl, refl)

  -- *The first cell is given up*
  pub record GivenUp (line : Line) (ws : List Cell) : Type 0 where
    pub rest : List lines.Cell
    pub shows : Came ws rest
    pub moved : Moved line (with_taken role (way_to role line).chain rest line)

  pub gives_up : (line : Line) (c : Cell) (ws : List Cell) (ts : List lines.Cell) → (way_to role line).to_controller ≡ ts → FirstCame c ws ts → GivenUp line ws
  gives_up line c ws ts e (no_word {ts = us} none s) = record { rest = us; shows = s; moved = stays_front role line us e }
  gives_up line c ws ts e (a_word {t} {ts = us} is s) = record { rest = us; shows = s; moved = leaves_front role line t us e }

  -- *It joins the chain*
  pub record JoinedIn (line : Line) (chain : List Cell) (c : Cell) (ws : List Cell) : Type 0 where
    pub words : List lines.Cell
    pub rest : List lines.Cell
    pub came : Came (chain ++ c ∷ []) words
    pub shows : Came ws rest
    pub moved : Moved line (with_taken role words rest line)

  pub joins_in : (line : Line) (chain : List Cell) (c : Cell) (ws : List Cell) (ts : List lines.Cell) → IsDefault link role c → Came chain (way_to role line).chain
      → (way_to role line).to_controller ≡ ts → FirstCame c ws ts → JoinedIn line chain c ws
  joins_in line chain c ws ts here taken e (no_word {ts = us} none s) = record {
    words = (way_to role line).chain;
    rest = us;
    came = shows_behind taken (one_hidden none);
    shows = s;
    moved = stays_front role line us e;
  }
  joins_in line chain c ws ts here taken e (a_word {t} {ts = us} is s) =
      let word : IsMessage c.header.last t = payload_word (other role) link c.header.last (payload_of frames c.mark) t (sym (default_seen c here) ∙ is) in
      record {
        words = (way_to role line).chain ++ t ∷ [];
        rest = us;
        came = shows_join taken (one_word is);
        shows = s;
        moved = subst (λ (z : lines.Cell). Moved line (with_taken role ((way_to role line).chain ++ z ∷ []) us line)) (sym word.is)
            (joins_chain role line c.header.last word.message us (e ∙ ap (λ (z : lines.Cell). z ∷ us) word.is));
      }

-- *The network with another chain*, and without the first cell in front of the controller
part_kept : (role : Role) (xs us : List lines.Cell) (line : Line) → part_of role (with_taken role xs us line) ≡ part_of role line
part_kept Downstream xs us line = refl
part_kept Upstream xs us line = refl

chain_is : (role : Role) (xs us : List lines.Cell) (line : Line) → (way_to role (with_taken role xs us line)).chain ≡ xs
chain_is Downstream xs us line = refl
chain_is Upstream xs us line = refl

module _ (link : LinkLabel) (like : Type 0) where
  chained_end : (role : Role) (a : Acted) (linked : Linked) (r : Reassembly) (xs us : List lines.Cell) (line : Line) → linked_at a.controller (link.port role) ≡ Some linked
      → Came link role a.notes.frames r.chain xs → End link like role a.notes.frames a.numbers.instances a.controller [] line
      → End link like role a.notes.frames a.numbers.instances (with_linked a (record linked { reassembly = r })).controller [] (with_taken role xs us line)
  chained_end role a linked r xs us line found came e =
      let is : linked ≡ e.linked = linked_is linked e.linked (sym found ∙ e.found) in
      let new : Linked = record linked { reassembly = r } in
      let port : linked.setup.port ≡ link.port role = ap (λ (z : Linked). z.setup.port) is ∙ e.port in
      let key : port_key new ≡ (link.port role).0 = ap (λ (q : PortNo). q.0) port in
      record {
        linked = new;
        found = subst (λ (n : ℕ). at port_key n (put port_key new a.controller.ports) ≡ Some new) key
            (at_put_same port_key new a.controller.ports linked (subst (λ (n : ℕ). at port_key n a.controller.ports ≡ Some linked) (sym key) found));
        port = port;
        address = e.address;
        port_address = ap (λ (z : Linked). z.setup.address) is ∙ e.port_address;
        queued = e.queued;
        queue = e.queue;
        shown = subst (λ (part : Part). ShownAt role link like e.queued (working new [] a.numbers.instances) part) (sym (part_kept role xs us line))
            (subst (λ (z : Linked). ShownAt role link like e.queued (working z [] a.numbers.instances) (part_of role line)) (sym is) e.shown);
        taken = subst (λ (z : List lines.Cell). Came link role a.notes.frames r.chain z) (sym (chain_is role xs us line)) came;
      }

  pub retaken : (role : Role) (pieces : Pieces) (a : Acted) (linked : Linked) (r : Reassembly) (ws : List Cell) (xs us : List lines.Cell) (line : Line)
      → linked_at a.controller (link.port role) ≡ Some linked → Came link role a.notes.frames r.chain xs → Came link role a.notes.frames ws us
      → Net link like (placed role pieces a) (asking role []) line
      → Net link like (placed role (awaited role pieces ws) (with_linked a (record linked { reassembly = r }))) (asking role []) (with_taken role xs us line)
  retaken Downstream pieces a linked r ws xs us line found came shows n = record {
    end = both _ (chained_end Downstream a linked r xs us line found came (n.end Downstream)) (n.end Upstream);
    waiting = both _ shows (n.waiting Upstream);
    output = both _ (n.output Downstream) (n.output Upstream);
    unmade = n.unmade;
  }
  retaken Upstream pieces a linked r ws xs us line found came shows n = record {
    end = both _ (n.end Downstream) (chained_end Upstream a linked r xs us line found came (n.end Upstream));
    waiting = both _ (n.waiting Downstream) shows;
    output = both _ (n.output Downstream) (n.output Upstream);
    unmade = n.unmade;
  }

  -- the notes are others, with the same frames
  pub noted_net : (role : Role) (pieces : Pieces) (a : Acted) (notes : Journal) (asked : Role → List Action) (line : Line) → notes.frames ≡ a.notes.frames
      → Net link like (placed role pieces a) asked line → Net link like (placed role pieces (record a { notes = notes })) asked line
  noted_net role pieces a notes asked line e n = subst (λ (frames : List Frame). Net link like (record (placed role pieces a) { frames = frames }) asked line) (sym e) n

  pub goes_moved : (pieces : Pieces) (asked : Role → List Action) (line after : Line) → Moved line after → Goes link like pieces asked after → Goes link like pieces asked line
  goes_moved pieces asked line after m g = record {
    moves = m.moves ++ g.moves;
    after = g.after;
    is = run_join line m.moves g.moves ∙ (ap (λ (z : Line). run z g.moves) m.is ∙ g.is);
    net = g.net;
  }

  pub goes_here : (pieces : Pieces) (asked : Role → List Action) (line after : Line) → Moved line after → Net link like pieces asked after → Goes link like pieces asked line
  goes_here pieces asked line after m n = record { moves = m.moves; after = after; is = m.is; net = n }

  -- what waits in front of the controller of an end, and what its chain shows
  pub waits : (role : Role) (pieces : Pieces) (a : Acted) (line : Line) → Net link like (placed role pieces a) (asking role []) line
      → Came link role a.notes.frames (pieces.waiting role) (way_to role line).to_controller
  waits role pieces a line n = n.waiting role

  pub chained : (role : Role) (pieces : Pieces) (a : Acted) (linked : Linked) (line : Line) → linked_at a.controller (link.port role) ≡ Some linked
      → Net link like (placed role pieces a) (asking role []) line → Came link role a.notes.frames linked.reassembly.chain (way_to role line).chain
  chained role pieces a linked line found n =
      let e : End link like role a.notes.frames a.numbers.instances a.controller [] line = own_end link like role pieces a [] line n in
      subst (λ (z : Linked). Came link role a.notes.frames z.reassembly.chain (way_to role line).chain) (sym (linked_is linked e.linked (sym found ∙ e.found))) e.taken
