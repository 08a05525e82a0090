-- the queues between the two controllers: a cell goes on from one queue to the next, or is gone

use Rattle.std.proofs.Common.{◌≡◌, List, [], ◌∷◌, ◌++◌, refl, sym, ◌∙◌, ap, subst, append-nil, remove}
use Rattle.law_controller_facts.specs.world_model.Words.{Cell, Frame}
use Rattle.law_shown_cells.specs.law_label_line.Cells as lines
use Rattle.law_shown_cells.specs.law_label_line.Cells.{Role, Downstream, Upstream, Way, InOutput, ToController, ToSwitch}
use Rattle.law_shown_cells.specs.law_label_line.Line.{Line}
use Rattle.law_shown_cells.specs.law_label_line.Moves.{Move, Switch, Pass, Lose, run}
use Rattle.law_shown_cells.specs.law_port_views.Link.{LinkLabel, other}
use Rattle.law_shown_cells.specs.Seen.{Nothing, Word}
use Rattle.law_shown_cells.specs.Label.{OnLink, OnControl, Where, seen, erased, ShowsCells}
use Rattle.law_shown_cells.proofs.Shows.{First, no_word, a_word, first_of, shows_join, one_word, one_hidden, shows_behind}
use Rattle.law_controller_views.specs.Ends.{way_to, with_way, End, Pieces, Net, Goes, idle}
use Rattle.law_controller_views.specs.Queues.{carried, crossed, awaited, Outcome, put_out, gone, Passage, passed, lost}
use Rattle.law_controller_views.proofs.Parts.{both}

-- *Moves on a way*
pub record Moved (line after : Line) : Type 0 where
  pub moves : List Move
  pub is : run line moves ≡ after

-- what stands in front of the sender's switch and behind it; on the link and in front of the receiver
abbrev pub with_out : Role → (switch output : List lines.Cell) → Line → Line
with_out role switch output line = with_way (other role) line (record (way_to (other role) line) { to_switch = switch; output = output })

abbrev pub with_link : Role → (output waiting : List lines.Cell) → Line → Line
with_link role output waiting line = with_way (other role) line (record (way_to (other role) line) { output = output; to_controller = waiting })

switched_move : (role : Role) (line : Line) (t : lines.Cell) (ts : List lines.Cell) → (way_to (other role) line).to_switch ≡ t ∷ ts
    → Moved line (with_out role ts ((way_to (other role) line).output ++ (t ∷ [])) line)
switched_move Downstream line t ts e = record { moves = Switch Upstream ∷ []; is = ap (λ (z : List lines.Cell). record line { to_upstream = lines.switched line.to_upstream z }) e }
switched_move Upstream line t ts e = record { moves = Switch Downstream ∷ []; is = ap (λ (z : List lines.Cell). record line { to_downstream = lines.switched line.to_downstream z }) e }

lost_move : (role : Role) (line : Line) (t : lines.Cell) (ts : List lines.Cell) → (way_to (other role) line).to_switch ≡ t ∷ ts
    → Moved line (with_out role ts (way_to (other role) line).output line)
lost_move Downstream line t ts e = record { moves = Lose Upstream ToSwitch 0 ∷ []; is = ap (λ (z : List lines.Cell). record line { to_upstream = record (line.to_upstream) { to_switch = remove z 0 } }) e }
lost_move Upstream line t ts e = record { moves = Lose Downstream ToSwitch 0 ∷ []; is = ap (λ (z : List lines.Cell). record line { to_downstream = record (line.to_downstream) { to_switch = remove z 0 } }) e }

still_out : (role : Role) (line : Line) (ts : List lines.Cell) → (way_to (other role) line).to_switch ≡ ts
    → Moved line (with_out role ts (way_to (other role) line).output line)
still_out Downstream line ts e = record { moves = []; is = ap (λ (z : List lines.Cell). record line { to_upstream = record (line.to_upstream) { to_switch = z } }) e }
still_out Upstream line ts e = record { moves = []; is = ap (λ (z : List lines.Cell). record line { to_downstream = record (line.to_downstream) { to_switch = z } }) e }

passed_move : (role : Role) (line : Line) (t : lines.Cell) (ts : List lines.Cell) → (way_to (other role) line).output ≡ t ∷ ts
    → Moved line (with_link role ts ((way_to (other role) line).to_controller ++ (t ∷ [])) line)
passed_move Downstream line t ts e = record { moves = Pass Upstream ∷ []; is = ap (λ (z : List lines.Cell). record line { to_upstream = lines.linked line.to_upstream z }) e }
passed_move Upstream line t ts e = record { moves = Pass Downstream ∷ []; is = ap (λ (z : List lines.Cell). record line { to_downstream = lines.linked line.to_downstream z }) e }

lost_out : (role : Role) (line : Line) (t : lines.Cell) (ts : List lines.Cell) → (way_to (other role) line).output ≡ t ∷ ts
    → Moved line (with_link role ts (way_to (other role) line).to_controller line)
lost_out Downstream line t ts e = record { moves = Lose Upstream InOutput 0 ∷ []; is = ap (λ (z : List lines.Cell). record line { to_upstream = record (line.to_upstream) { output = remove z 0 } }) e }
lost_out Upstream line t ts e = record { moves = Lose Downstream InOutput 0 ∷ []; is = ap (λ (z : List lines.Cell). record line { to_downstream = record (line.to_downstream) { output = remove z 0 } }) e }

still_link : (role : Role) (line : Line) (ts : List lines.Cell) → (way_to (other role) line).output ≡ ts
    → Moved line (with_link role ts (way_to (other role) line).to_controller line)
still_link Downstream line ts e = record { moves = []; is = ap (λ (z : List lines.Cell). record line { to_upstream = record (line.to_upstream) { output = z } }) e }
still_link Upstream line ts e = record { moves = []; is = ap (λ (z : List lines.Cell). record line { to_downstream = record (line.to_downstream) { output = z } }) e }

-- what stands in front of a receiver
abbrev pub with_waiting : Role → List lines.Cell → Line → Line
with_waiting role waiting line = with_way role line (record (way_to role line) { to_controller = waiting })

pub lost_waiting : (role : Role) (line : Line) (t : lines.Cell) (ts : List lines.Cell) → (way_to role line).to_controller ≡ t ∷ ts → Moved line (with_waiting role ts line)
lost_waiting Downstream line t ts e = record { moves = Lose Downstream ToController 0 ∷ []; is = ap (λ (z : List lines.Cell). record line { to_downstream = record (line.to_downstream) { to_controller = remove z 0 } }) e }
lost_waiting Upstream line t ts e = record { moves = Lose Upstream ToController 0 ∷ []; is = ap (λ (z : List lines.Cell). record line { to_upstream = record (line.to_upstream) { to_controller = remove z 0 } }) e }

pub still_waiting : (role : Role) (line : Line) (ts : List lines.Cell) → (way_to role line).to_controller ≡ ts → Moved line (with_waiting role ts line)
still_waiting Downstream line ts e = record { moves = []; is = ap (λ (z : List lines.Cell). record line { to_downstream = record (line.to_downstream) { to_controller = z } }) e }
still_waiting Upstream line ts e = record { moves = []; is = ap (λ (z : List lines.Cell). record line { to_upstream = record (line.to_upstream) { to_controller = z } }) e }

-- a word in one queue is the same in the next, where the cell is seen the same
same_word : (f g : Where) (by : Role) (link : LinkLabel) (frames : List Frame) (c d : Cell) (t : lines.Cell) → seen g by link frames d ≡ seen f by link frames c
    → seen f by link frames c ≡ Word (erased t) → ShowsCells g by link frames (d ∷ []) (t ∷ [])
same_word f g by link frames c d t same e = one_word (same ∙ e)

same_hidden : (f g : Where) (by : Role) (link : LinkLabel) (frames : List Frame) (c d : Cell) → seen g by link frames d ≡ seen f by link frames c
    → seen f by link frames c ≡ Nothing → ShowsCells g by link frames (d ∷ []) []
same_hidden f g by link frames c d same e = one_hidden (same ∙ e)

module _ (link : LinkLabel) (like : Type 0) where
  goes_after : (pieces : Pieces) (line after : Line) → Moved line after → Net link like pieces idle after → Goes link like pieces idle line
  goes_after pieces line after m n = record { moves = m.moves; after = after; is = m.is; net = n }

  -- *From the controller to its switch and out to the link*
  recarried : (role : Role) (pieces : Pieces) (line : Line) (cs os : List Cell) (ts us : List lines.Cell) → Net link like pieces idle line
      → ShowsCells (OnControl (link.port role)) role link pieces.frames cs ts → ShowsCells OnLink role link pieces.frames os us
      → Net link like (carried role pieces cs os) idle (with_out role ts us line)
  recarried Downstream pieces line cs os ts us n s o =
      let d : End link like Downstream pieces.frames pieces.numbers.instances (pieces.controller Downstream) [] line = n.end Downstream in
      record {
        end = both _
            (record {
              linked = d.linked;
              found = d.found;
              port = d.port;
              address = d.address;
              port_address = d.port_address;
              queued = ts;
              queue = s;
              shown = record {
                side = d.shown.side;
                session = d.shown.session;
                label = d.shown.label;
                flow = d.shown.flow;
                number = d.shown.number;
                unspent = d.shown.unspent;
                known = d.shown.known;
                reassembled = d.shown.reassembled;
                drawn = d.shown.drawn;
                own = d.shown.own;
                sent = sym (append-nil ts);
              };
              taken = d.taken;
            })
            (n.end Upstream);
        waiting = both _ (n.waiting Downstream) (n.waiting Upstream);
        output = both _ o (n.output Upstream);
        unmade = n.unmade;
      }
  recarried Upstream pieces line cs os ts us n s o =
      let u : End link like Upstream pieces.frames pieces.numbers.instances (pieces.controller Upstream) [] line = n.end Upstream in
      record {
        end = both _
            (n.end Downstream)
            (record {
              linked = u.linked;
              found = u.found;
              port = u.port;
              address = u.address;
              port_address = u.port_address;
              queued = ts;
              queue = s;
              shown = record {
                side = u.shown.side;
                session = u.shown.session;
                grant = u.shown.grant;
                once = u.shown.once;
                lent = u.shown.lent;
                expected = u.shown.expected;
                drawn = u.shown.drawn;
                own = u.shown.own;
                sent = sym (append-nil ts);
              };
              taken = u.taken;
            });
        waiting = both _ (n.waiting Downstream) (n.waiting Upstream);
        output = both _ (n.output Downstream) o;
        unmade = n.unmade;
      }

  -- what is sent is all that the queue shows, where nothing is asked
  sent_is : (role : Role) (pieces : Pieces) (line : Line) → Net link like pieces idle line
      → ShowsCells (OnControl (link.port role)) role link pieces.frames (pieces.controller role).queue (way_to (other role) line).to_switch
  sent_is Downstream pieces line n = subst (ShowsCells (OnControl (link.port Downstream)) Downstream link pieces.frames (pieces.controller Downstream).queue)
      (sym ((n.end Downstream).shown.sent ∙ append-nil (n.end Downstream).queued)) (n.end Downstream).queue
  sent_is Upstream pieces line n = subst (ShowsCells (OnControl (link.port Upstream)) Upstream link pieces.frames (pieces.controller Upstream).queue)
      (sym ((n.end Upstream).shown.sent ∙ append-nil (n.end Upstream).queued)) (n.end Upstream).queue

  front_carried : (role : Role) (pieces : Pieces) (line : Line) (c : Cell) (cs os : List Cell) (ts : List lines.Cell) → Net link like pieces idle line
      → (way_to (other role) line).to_switch ≡ ts → First erased (seen (OnControl (link.port role)) role link pieces.frames) c cs ts
      → Outcome link role pieces c os → Goes link like (carried role pieces cs os) idle line
  front_carried role pieces line c cs os ts n e (no_word {ts = us} none s) (put_out d is same) = goes_after (carried role pieces cs os) line _ (still_out role line us e)
      (recarried role pieces line cs os us (way_to (other role) line).output n s
      (subst (λ (z : List Cell). ShowsCells OnLink role link pieces.frames z (way_to (other role) line).output) (sym is)
      (shows_behind (n.output role) (same_hidden (OnControl (link.port role)) OnLink role link pieces.frames c d same none))))
  front_carried role pieces line c cs os ts n e (no_word {ts = us} none s) (gone is) = goes_after (carried role pieces cs os) line _ (still_out role line us e)
      (recarried role pieces line cs os us (way_to (other role) line).output n s
      (subst (λ (z : List Cell). ShowsCells OnLink role link pieces.frames z (way_to (other role) line).output) (sym is) (n.output role)))
  front_carried role pieces line c cs os ts n e (a_word {t} {ts = us} is_word s) (put_out d is same) = goes_after (carried role pieces cs os) line _ (switched_move role line t us e)
      (recarried role pieces line cs os us ((way_to (other role) line).output ++ (t ∷ [])) n s
      (subst (λ (z : List Cell). ShowsCells OnLink role link pieces.frames z ((way_to (other role) line).output ++ (t ∷ []))) (sym is)
      (shows_join (n.output role) (same_word (OnControl (link.port role)) OnLink role link pieces.frames c d t same is_word))))
  front_carried role pieces line c cs os ts n e (a_word {t} {ts = us} is_word s) (gone is) = goes_after (carried role pieces cs os) line _ (lost_move role line t us e)
      (recarried role pieces line cs os us (way_to (other role) line).output n s
      (subst (λ (z : List Cell). ShowsCells OnLink role link pieces.frames z (way_to (other role) line).output) (sym is) (n.output role)))

  -- the first cell of a controller's queue leaves it
  pub carried_net : (role : Role) (pieces : Pieces) (line : Line) (c : Cell) (cs os : List Cell) → (pieces.controller role).queue ≡ c ∷ cs → Net link like pieces idle line
      → Outcome link role pieces c os → Goes link like (carried role pieces cs os) idle line
  carried_net role pieces line c cs os front n outcome = front_carried role pieces line c cs os (way_to (other role) line).to_switch n refl
      (first_of (subst (λ (z : List Cell). ShowsCells (OnControl (link.port role)) role link pieces.frames z (way_to (other role) line).to_switch) front (sent_is role pieces line n))) outcome

  -- *Over the link, to the receiver's switch and up to its controller*
  recrossed : (role : Role) (pieces : Pieces) (line : Line) (os ws : List Cell) (us ts : List lines.Cell) → Net link like pieces idle line
      → ShowsCells OnLink role link pieces.frames os us → ShowsCells (OnControl (link.port (other role))) role link pieces.frames ws ts
      → Net link like (crossed role pieces os ws) idle (with_link role us ts line)
  recrossed Downstream pieces line os ws us ts n o s = record {
    end = both _ (n.end Downstream) (n.end Upstream);
    waiting = both _ (n.waiting Downstream) s;
    output = both _ o (n.output Upstream);
    unmade = n.unmade;
  }
  recrossed Upstream pieces line os ws us ts n o s = record {
    end = both _ (n.end Downstream) (n.end Upstream);
    waiting = both _ s (n.waiting Upstream);
    output = both _ (n.output Downstream) o;
    unmade = n.unmade;
  }

  waits_at : (role : Role) (pieces : Pieces) (line : Line) → Net link like pieces idle line
      → ShowsCells (OnControl (link.port (other role))) role link pieces.frames (pieces.waiting (other role)) (way_to (other role) line).to_controller
  waits_at Downstream pieces line n = n.waiting Upstream
  waits_at Upstream pieces line n = n.waiting Downstream

  front_crossed : (role : Role) (pieces : Pieces) (line : Line) (c : Cell) (os ws : List Cell) (ts : List lines.Cell) → Net link like pieces idle line
      → (way_to (other role) line).output ≡ ts → First erased (seen OnLink role link pieces.frames) c os ts
      → Passage link role pieces c ws → Goes link like (crossed role pieces os ws) idle line
  front_crossed role pieces line c os ws ts n e (no_word {ts = us} none s) (passed d is same) = goes_after (crossed role pieces os ws) line _ (still_link role line us e)
      (recrossed role pieces line os ws us (way_to (other role) line).to_controller n s
      (subst (λ (z : List Cell). ShowsCells (OnControl (link.port (other role))) role link pieces.frames z (way_to (other role) line).to_controller) (sym is)
      (shows_behind (waits_at role pieces line n) (same_hidden OnLink (OnControl (link.port (other role))) role link pieces.frames c d same none))))
  front_crossed role pieces line c os ws ts n e (no_word {ts = us} none s) (lost is) = goes_after (crossed role pieces os ws) line _ (still_link role line us e)
      (recrossed role pieces line os ws us (way_to (other role) line).to_controller n s
      (subst (λ (z : List Cell). ShowsCells (OnControl (link.port (other role))) role link pieces.frames z (way_to (other role) line).to_controller) (sym is) (waits_at role pieces line n)))
  front_crossed role pieces line c os ws ts n e (a_word {t} {ts = us} is_word s) (passed d is same) = goes_after (crossed role pieces os ws) line _ (passed_move role line t us e)
      (recrossed role pieces line os ws us ((way_to (other role) line).to_controller ++ (t ∷ [])) n s
      (subst (λ (z : List Cell). ShowsCells (OnControl (link.port (other role))) role link pieces.frames z ((way_to (other role) line).to_controller ++ (t ∷ []))) (sym is)
      (shows_join (waits_at role pieces line n) (same_word OnLink (OnControl (link.port (other role))) role link pieces.frames c d t same is_word))))
  front_crossed role pieces line c os ws ts n e (a_word {t} {ts = us} is_word s) (lost is) = goes_after (crossed role pieces os ws) line _ (lost_out role line t us e)
      (recrossed role pieces line os ws us (way_to (other role) line).to_controller n s
      (subst (λ (z : List Cell). ShowsCells (OnControl (link.port (other role))) role link pieces.frames z (way_to (other role) line).to_controller) (sym is) (waits_at role pieces line n)))

  -- the first cell on the link leaves it
  pub crossed_net : (role : Role) (pieces : Pieces) (line : Line) (c : Cell) (os ws : List Cell) → pieces.output role ≡ c ∷ os → Net link like pieces idle line
      → Passage link role pieces c ws → Goes link like (crossed role pieces os ws) idle line
  crossed_net role pieces line c os ws front n passage = front_crossed role pieces line c os ws (way_to (other role) line).output n refl
      (first_of (subst (λ (z : List Cell). ShowsCells OnLink role link pieces.frames z (way_to (other role) line).output) front (n.output role))) passage

  -- *In front of the controller* the first cell is lost
  reawaited : (role : Role) (pieces : Pieces) (line : Line) (ws : List Cell) (ts : List lines.Cell) → Net link like pieces idle line
      → ShowsCells (OnControl (link.port role)) (other role) link pieces.frames ws ts → Net link like (awaited role pieces ws) idle (with_waiting role ts line)
  reawaited Downstream pieces line ws ts n s = record {
    end = both _ (n.end Downstream) (n.end Upstream);
    waiting = both _ s (n.waiting Upstream);
    output = both _ (n.output Downstream) (n.output Upstream);
    unmade = n.unmade;
  }
  reawaited Upstream pieces line ws ts n s = record {
    end = both _ (n.end Downstream) (n.end Upstream);
    waiting = both _ (n.waiting Downstream) s;
    output = both _ (n.output Downstream) (n.output Upstream);
    unmade = n.unmade;
  }

  front_lost : (role : Role) (pieces : Pieces) (line : Line) (c : Cell) (ws : List Cell) (ts : List lines.Cell) → Net link like pieces idle line
      → (way_to role line).to_controller ≡ ts → First erased (seen (OnControl (link.port role)) (other role) link pieces.frames) c ws ts
      → Goes link like (awaited role pieces ws) idle line
  front_lost role pieces line c ws ts n e (no_word {ts = us} none s) = goes_after (awaited role pieces ws) line _ (still_waiting role line us e) (reawaited role pieces line ws us n s)
  front_lost role pieces line c ws ts n e (a_word {t} {ts = us} is_word s) = goes_after (awaited role pieces ws) line _ (lost_waiting role line t us e) (reawaited role pieces line ws us n s)

  pub lost_net : (role : Role) (pieces : Pieces) (line : Line) (c : Cell) (ws : List Cell) → pieces.waiting role ≡ c ∷ ws → Net link like pieces idle line
      → Goes link like (awaited role pieces ws) idle line
  lost_net role pieces line c ws front n = front_lost role pieces line c ws (way_to role line).to_controller n refl
      (first_of (subst (λ (z : List Cell). ShowsCells (OnControl (link.port role)) (other role) link pieces.frames z (way_to role line).to_controller) front (n.waiting role)))
