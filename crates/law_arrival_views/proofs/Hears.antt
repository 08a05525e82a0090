-- a frame of the link's default channel is whole: the port hears the message that the line hears, or all of it is given up

use Rattle.std.proofs.Common.{◌≡◌, ℕ, ◌≤◌, Bool, true, false, List, [], ◌∷◌, ◌++◌, Option, None, Some, Result, refl, sym, ◌∙◌, ap, subst, arith, if◌then◌else◌}
use Rattle.std.specs.Prelude.{◌==◌, ◌&&◌, drop}
use Rattle.std.specs.Option.{option_and_then, option_map}
use Rattle.std.proofs.lemmas.Bool.Decides.{nat_tests}
use Rattle.law_controller_views.specs.world_model.Words.{Addr, source_of, Cell, EncapsFault, Work, Linked, linked_at, begins, with_work, works_as}
use Rattle.law_controller_views.specs.world_model.ifmp_wire.declared.message.Message.{Message}
use Rattle.law_controller_views.specs.world_model.ifmp_wire.declared.reader.Fault.{Fault}
use Rattle.law_controller_views.specs.world_model.ifmp_wire.Fields.{decoded as ifmp_decoded}
use Rattle.law_controller_views.specs.ordered_lists.Ordered.{Every}
use Rattle.law_controller_views.specs.law_label_line.Cells as lines
use Rattle.law_controller_views.specs.law_label_line.Cells.{Role, Downstream, Upstream}
use Rattle.law_controller_views.specs.law_label_line.Line.{Line}
use Rattle.law_controller_views.specs.law_label_line.Moves.{Hear, step, run}
use Rattle.law_controller_views.specs.world_model.Controller.{Acted}
use Rattle.law_controller_views.specs.world_model.Ways.{ok_of}
use Rattle.law_controller_views.specs.law_port_views.Link.{LinkLabel, other}
use Rattle.law_controller_views.specs.law_port_views.Heard.{heard_by, is_own}
use Rattle.law_controller_views.specs.law_port_views.Shown.{Shown}
use Rattle.law_controller_views.specs.law_port_views.Reaching.{ReachesFrom, Comes, heard, unheard, hears_at}
use Rattle.law_controller_views.proofs.law_port_views.Messages.{message_comes}
use Rattle.law_controller_views.proofs.law_port_views.Reach.{run_join}
use Rattle.law_controller_views.specs.law_shown_cells.Seen.{Seen, Nothing, Word, Unknown}
use Rattle.law_controller_views.specs.law_shown_cells.Label.{OnControl, erased, seen, seen_message, seen_packet, seen_payload, told_in, told_of}
use Rattle.law_controller_views.proofs.law_shown_cells.Shows.{no_word, a_word}
use Rattle.law_controller_views.specs.Ends.{way_to, End, Pieces, Net, Goes, asking, placed}
use Rattle.law_controller_views.specs.Lifted.{IsProper, IsReadableAction}
use Rattle.law_controller_views.proofs.Parts.{own_end, moved, net_goes}
use Rattle.law_controller_views.proofs.Carried.{Moved}
use Rattle.law_controller_views.proofs.Works.{linked_is, own_grows, performed_own}
use Rattle.law_controller_views.proofs.AtPort.{put_back}
use Rattle.law_arrival_views.specs.Cells.{IsTold, heard_work, CanHear}
use Rattle.law_arrival_views.proofs.Chains.{with_taken, moved_then, empties, empties_all, goes_moved, joins_chain, leaves_front, stays_front, Came, FirstCame}

-- *What a whole frame says* is what its last cell shows
pub told_is : (payload packet : List ℕ) (message : Message) → IsTold payload packet message → told_of payload ≡ Some (record { source = source_of packet; message = message })
told_is payload packet message h =
    ap (λ (r : Result (List ℕ) EncapsFault). option_and_then told_in (ok_of r)) h.unwrapped
    ∙ (ap (λ (b : Bool). option_map (λ (m : Message). record { source = source_of packet; message = m }) (if b then ok_of (ifmp_decoded (drop 20 packet)) else None)) h.protocol
    ∙ ap (λ (r : Result Message Fault). option_map (λ (m : Message). record { source = source_of packet; message = m }) (ok_of r)) h.decoded)

other_twice : (role : Role) → other (other role) ≡ role
other_twice Downstream = refl
other_twice Upstream = refl

-- what is known of a cell is known of its frame: who said it, and to whom
pub record IsKnown (link : LinkLabel) (role : Role) (source : Addr) (message : Message) (shown : Seen lines.Cell) : Type 0 where
  pub source_is : source ≡ link.address (other role)
  pub own : is_own (link.address role) message ≡ true
  pub heard_is : seen_message true (heard_by (other role) link.label message) ≡ shown

known_by : (b : Bool) (x y : Seen lines.Cell) → (if b then x else Unknown) ≡ y → (y ≡ Unknown → ⊥) → (b ≡ true) × (x ≡ y)
known_by true x y e n = (refl, e)
known_by false x y e n = absurd (n (sym e))

both_of : (a b : Bool) → (a && b) ≡ true → (a ≡ true) × (b ≡ true)
both_of true b e = (refl, e)
both_of false b e = absurd (cc e)

address_is : (a b : Addr) → (a.0 == b.0) ≡ true → a ≡ b
address_is a b e = (let same : a.0 ≡ b.0 = grind (arith, nat_tests, e) in ap (λ (n : ℕ). record { 0 = n }) same)

pub known_frame : (link : LinkLabel) (role : Role) (payload packet : List ℕ) (message : Message) (o : Option (List ℕ)) (shown : Seen lines.Cell) → IsTold payload packet message
    → o ≡ Some payload → seen_payload (other role) link true o ≡ shown → (shown ≡ Unknown → ⊥) → IsKnown link role (source_of packet) message shown
known_frame link role payload packet message o shown h made is n =
    let said = known_by _ (seen_message true (heard_by (other role) link.label message)) shown
    (ap (seen_packet (other role) link true) (sym (told_is payload packet message h)) ∙ (ap (seen_payload (other role) link true) (sym made) ∙ is)) n in
    let parts = both_of ((source_of packet).0 == (link.address (other role)).0) (is_own (link.address (other (other role))) message) said.0 in
    record {
      source_is = address_is (source_of packet) (link.address (other role)) parts.0;
      own = subst (λ (r : Role). is_own (link.address r) message ≡ true) (other_twice role) parts.1;
      heard_is = said.1;
    }

-- *The line hears it*: its last cell alone is left of the chain
hears_step : (role : Role) (message : lines.Message) (us : List lines.Cell) (room : Bool) (drawn : ℕ) (line : Line)
    → step (with_taken role (lines.Default true message ∷ []) us line) (Hear role room drawn) ≡ hears_at role (with_taken role [] us line) message room drawn
hears_step Downstream message us room drawn line = refl
hears_step Upstream message us room drawn line = refl

heard_move : (role : Role) (xs us : List lines.Cell) (message : lines.Message) (room : Bool) (drawn : ℕ) (line : Line)
    → Moved (with_taken role (xs ++ lines.Default true message ∷ []) us line) (hears_at role (with_taken role [] us line) message room drawn)
heard_move role xs us message room drawn line =
    moved_then (with_taken role (xs ++ lines.Default true message ∷ []) us line) (with_taken role (lines.Default true message ∷ []) us line) (hears_at role (with_taken role [] us line) message room drawn)
    (empties role xs (lines.Default true message ∷ []) us line) (record { moves = Hear role room drawn ∷ []; is = hears_step role message us room drawn line })

module _ (link : LinkLabel) (proper : IsProper link) (like : Type 0) (role : Role) where
  -- *A port at work* is put back, from where its work has led the line, and what it asks is done
  works_net : (pieces : Pieces) (b : Acted) (linked : Linked) (w : Work) (start line : Line) → linked_at b.controller (link.port role) ≡ Some linked → b.numbers.instances ≤ w.instances
      → Every (IsReadableAction (link.address role)) w.actions → (n : Net link like (placed role pieces b) (asking role []) line)
      → ReachesFrom role link like (own_end link like role pieces b [] line n).queued w start line
      → Goes link like (placed role pieces (works_as b linked w)) (asking role []) start
  works_net pieces b linked w start line found drawn reads n r =
      let e : End link like role b.notes.frames b.numbers.instances b.controller [] line = own_end link like role pieces b [] line n in
      let is : linked ≡ e.linked = linked_is linked e.linked (sym found ∙ e.found) in
      let port : linked.setup.port ≡ link.port role = ap (λ (z : Linked). z.setup.port) is ∙ e.port in
      let net : Net link like (placed role pieces (with_work b linked w)) (asking role w.actions) r.after =
      moved link like role pieces b (with_work b linked w) [] w.actions line r.after n (put_back link proper like role b linked w [] start line drawn e is r) r.rest
      (own_grows link proper like role b (record linked { port = w.port }) b.notes w.instances refl drawn) in
      let g : Goes link like (placed role pieces (works_as b linked w)) (asking role []) r.after =
      net_goes link like role pieces (with_work b linked w) (works_as b linked w) w.actions [] r.after (performed_own link proper like role linked.setup.port w.actions (with_work b linked w) port reads) net in
      record { moves = r.moves ++ g.moves; after = g.after; is = run_join start r.moves g.moves ∙ (ap (λ (z : Line). run z g.moves) r.is ∙ g.is); net = g.net }

  shown_begun : (pieces : Pieces) (b : Acted) (linked : Linked) (line : Line) → linked_at b.controller (link.port role) ≡ Some linked → (n : Net link like (placed role pieces b) (asking role []) line)
      → Shown role link like (own_end link like role pieces b [] line n).queued (begins b linked) line
  shown_begun pieces b linked line found n =
      let e : End link like role b.notes.frames b.numbers.instances b.controller [] line = own_end link like role pieces b [] line n in
      subst (λ (z : Linked). Shown role link like e.queued (begins b z) line) (sym (linked_is linked e.linked (sym found ∙ e.found))) e.shown

  comes_at : (pieces : Pieces) (b : Acted) (linked : Linked) (source : Addr) (message : Message) (line : Line) (shown : Seen lines.Cell) → linked_at b.controller (link.port role) ≡ Some linked
      → CanHear link role b linked source message → IsKnown link role source message shown → (n : Net link like (placed role pieces b) (asking role []) line)
      → Comes role link like (own_end link like role pieces b [] line n).queued (heard_work b linked source message) message line
  comes_at pieces b linked source message line shown found can known n =
      message_comes link like (own_end link like role pieces b [] line n).queued role linked.setup b.controller.desk (begins b linked) source message line refl can.unspent proper.label
      known.source_is known.own (shown_begun pieces b linked line found n)

  -- *The first cell in front of the controller ends a frame*, of which the line may know a word
  not_none : (o : Option lines.Message) (said : lines.Message) → seen_message true o ≡ Nothing → o ≡ Some said → ⊥
  not_none None said e f = absurd (cc f)
  not_none (Some m) said e f = absurd (cc e)

  word_is : (o : Option lines.Message) (said : lines.Message) (t : lines.Cell) → seen_message true o ≡ Word (erased t) → o ≡ Some said → t ≡ lines.Default true said
  word_is None said t e f = absurd (cc f)
  word_is (Some m) said (lines.Labelled flow) e f = absurd (cc e)
  word_is (Some m) said (lines.Default last other_said) e f = cc (e, f)

  -- nothing of it is a word of the line's, or all of it is lost, and the port's work leads on
  pub heard_net : (pieces : Pieces) (b : Acted) (linked : Linked) (source : Addr) (message : Message) (line : Line) (c : Cell) (ws : List Cell) (ts : List lines.Cell)
      → linked_at b.controller (link.port role) ≡ Some linked → CanHear link role b linked source message
      → (way_to role line).to_controller ≡ ts → (n : (rest : List lines.Cell) → Came link role b.notes.frames ws rest → Net link like (placed role pieces b) (asking role []) (with_taken role [] rest line))
      → FirstCame link role b.notes.frames c ws ts
      → ((shown : Seen lines.Cell) → seen (OnControl (link.port role)) (other role) link b.notes.frames c ≡ shown → (shown ≡ Unknown → ⊥) → IsKnown link role source message shown)
      → Goes link like (placed role pieces (works_as b linked (heard_work b linked source message))) (asking role []) line
  heard_net pieces b linked source message line c ws ts found can front n (no_word {ts = rest} none s) known = by (comes_at pieces b linked source message (with_taken role [] rest line) Nothing found can (known Nothing none (λ u. absurd (cc u))) (n rest s))
    where
      known_here : IsKnown link role source message Nothing
      known_here = known Nothing none (λ u. absurd (cc u))

      w : Work
      w = heard_work b linked source message

      by : Comes role link like (own_end link like role pieces b [] (with_taken role [] rest line) (n rest s)).queued w message (with_taken role [] rest line)
          → Goes link like (placed role pieces (works_as b linked w)) (asking role []) line
      by (heard said room drawn is r) = absurd (not_none (heard_by (other role) link.label message) said known_here.heard_is is)
      by (unheard r) = goes_moved link like (placed role pieces (works_as b linked w)) (asking role []) line (with_taken role [] rest line)
          (moved_then line (with_taken role (way_to role line).chain rest line) (with_taken role [] rest line) (stays_front role line rest front) (empties_all role (way_to role line).chain rest line))
          (works_net pieces b linked w (with_taken role [] rest line) (with_taken role [] rest line) found can.drawn can.reads (n rest s) r)
  heard_net pieces b linked source message line c ws ts found can front n (a_word {t} {ts = rest} is s) known = by (comes_at pieces b linked source message (with_taken role [] rest line) (Word (erased t)) found can (known (Word (erased t)) is (λ u. absurd (cc u))) (n rest s))
    where
      known_here : IsKnown link role source message (Word (erased t))
      known_here = known (Word (erased t)) is (λ u. absurd (cc u))

      w : Work
      w = heard_work b linked source message

      by : Comes role link like (own_end link like role pieces b [] (with_taken role [] rest line) (n rest s)).queued w message (with_taken role [] rest line)
          → Goes link like (placed role pieces (works_as b linked w)) (asking role []) line
      by (heard said room drawn e r) = goes_moved link like (placed role pieces (works_as b linked w)) (asking role []) line (hears_at role (with_taken role [] rest line) said room drawn)
          (moved_then line (with_taken role ((way_to role line).chain ++ lines.Default true said ∷ []) rest line) (hears_at role (with_taken role [] rest line) said room drawn)
          (joins_chain role line true said rest (front ∙ ap (λ (z : lines.Cell). z ∷ rest) (word_is (heard_by (other role) link.label message) said t known_here.heard_is e))) (heard_move role (way_to role line).chain rest said room drawn line))
          (works_net pieces b linked w (hears_at role (with_taken role [] rest line) said room drawn) (with_taken role [] rest line) found can.drawn can.reads (n rest s) r)
      by (unheard r) = goes_moved link like (placed role pieces (works_as b linked w)) (asking role []) line (with_taken role [] rest line)
          (moved_then line (with_taken role (way_to role line).chain rest line) (with_taken role [] rest line) (leaves_front role line t rest front) (empties_all role (way_to role line).chain rest line))
          (works_net pieces b linked w (with_taken role [] rest line) (with_taken role [] rest line) found can.drawn can.reads (n rest s) r)
