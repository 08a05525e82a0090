-- what cells mean stays while other frames are made

use Rattle.std.proofs.Common.{◌≡◌, ◌≢◌, ℕ, ◌<◌, ◌==◌, Bool, true, false, List, [], ◌∷◌, ◌++◌, None, Some, refl, sym, ◌∙◌, subst, arith}
use Rattle.std.proofs.lemmas.Bool.Decides.{nat_tests}
use Rattle.law_arrival_views.specs.world_model.Words.{NodeId, Place, Channel, Mark, is_label_channel, Cell, Frame, payload_of, default_channel, same_channel, Topology, is_linked, Past}
use Rattle.law_arrival_views.specs.ordered_lists.Ordered.{Every}
use Rattle.law_arrival_views.proofs.ordered_lists.Every.{every_join, every_map}
use Rattle.law_packet_worlds.proofs.Lists.{none_passes}
use Rattle.law_arrival_views.specs.world_model.network_model.declared.link.LinkEnd.{LinkEnd}
use Rattle.law_run_facts.specs.law_world_views.Marks.{Heading, heading_at, HasCome, IsNewest, Means, early, control, local, plain, labelled, ends, ends_in}
use Rattle.law_packet_worlds.proofs.Ledger.{payload_stays, none_stays, other_packet}
use Rattle.law_packet_worlds.proofs.Cut.{IsCut, IsEarly}

-- the run with these frames made
abbrev pub in_frames : Past → List Frame → Past
in_frames base frames = record base { now = record base.now { notes = record base.now.notes { frames = frames } } }

-- a channel is a default one, or a label's at a port of a link
abbrev pub IsProper : Topology → Heading → Type 0
IsProper topology to = same_channel to.channel default_channel ≡ false
    → (is_label_channel to.channel ≡ true) × ((far : LinkEnd) → to.end ≡ Some far → is_linked topology far.node far.port ≡ true)

pub default_proper : (topology : Topology) (to : Heading) → same_channel to.channel default_channel ≡ true → IsProper topology to
default_proper topology to default other = (let clash : true ≡ false = sym default ∙ other in absurd (cc clash))

-- a cell is no last one of a packet of this number
abbrev pub IsApart : ℕ → Cell → Type 0
IsApart k cell = cell.header.last ≡ true → 0 < cell.mark.packet → k ≢ cell.mark.packet

apart_by : (k : ℕ) (cell : Cell) → ends k cell ≡ false → IsApart k cell
apart_by k cell none last some same =
    let test : (cell.mark.packet == k) ≡ true = grind (arith, nat_tests) in
    let clash : true ≡ false = sym test ∙ (rw last at none) in absurd (cc clash)

pub apart_cells : (k : ℕ) (cells : List Cell) → ends_in k cells ≡ 0 → Every (IsApart k) cells
apart_cells k cells none = every_map (λ cell. ends k cell ≡ false) (IsApart k) cells (apart_by k) (none_passes (ends k) cells none)

-- of no packet: control frames
pub apart_control : (cells : List Cell) → Every (IsApart 0) cells
apart_control [] = tt
apart_control (cell ∷ cells) = (λ last some same. absurd (omega (arith, some, same)), apart_control cells)

some_packet : (mark : Mark) → 0 < mark.packet → mark.packet ≢ 0
some_packet mark some e = omega (arith, some, e)

module _ (base : Past) where
  pub still_come : (frames other : List Frame) (k : ℕ) (node : NodeId) (packet : List ℕ) → HasCome (in_frames base frames) k node packet → HasCome (in_frames base other) k node packet
  still_come frames other k node packet c = record { counted = c.counted; fit = c.fit; time = c.time; so_far = c.so_far; reached = c.reached }

  -- a cell means what it should, and is on a default channel or on a label's
  abbrev pub MeansAt : List Frame → Place → Cell → Type 0
  MeansAt frames place cell = Means (in_frames base frames) (heading_at base.topology place cell.header.channel) cell.header.last cell.mark
      × IsProper base.topology (heading_at base.topology place cell.header.channel)

  -- the other cells of its frame mean the same
  pub means_early : (frames : List Frame) (to : Heading) (last : Bool) (mark : Mark) → Means (in_frames base frames) to last mark → Means (in_frames base frames) to false mark
  means_early frames to last mark (early d e other) = early d refl other
  means_early frames to last mark (control d z source message is) = control d z source message is
  means_early frames to last mark (local d none z) = local d none z
  means_early frames to last mark (plain d e far linked packet is come newest) = early d refl (some_packet mark come.counted)
  means_early frames to last mark (labelled d far linked flow bound payload packet is carried come newest) =
      labelled d far linked flow bound payload packet is carried come (λ e. absurd (cc e))

  pub frame_means : (frames : List Frame) (place : Place) (channel : Channel) (mark : Mark) (payload : List ℕ) (cells : List Cell) → IsCut channel mark payload cells
      → Means (in_frames base frames) (heading_at base.topology place channel) true mark → IsProper base.topology (heading_at base.topology place channel) → Every (MeansAt frames place) cells
  frame_means frames place channel mark payload cells cut m proper =
      let now : Past = in_frames base frames in
      let P : Cell → Type 0 = MeansAt frames place in
      let same : (last : Bool) (c : Cell) → c.header.last ≡ last → c.mark ≡ mark → c.header.channel ≡ channel → Means now (heading_at base.topology place channel) last mark → P c = λ last c e f g is.
      (subst (λ z. Means now (heading_at base.topology place z) c.header.last c.mark) (sym g) (subst (λ z. Means now (heading_at base.topology place channel) z c.mark) (sym e) (subst (Means now (heading_at base.topology place channel) last) (sym f) is)), subst (λ z. IsProper base.topology (heading_at base.topology place z)) (sym g) proper) in
      let front : Every P cut.front = every_map (IsEarly channel mark) P cut.front (λ c e. same false c e.0 e.1 e.2 (means_early frames (heading_at base.topology place channel) true mark m)) cut.early in
      subst (Every P) (sym cut.whole) (every_join P cut.front (cut.final ∷ []) front (same true cut.final cut.last cut.marked cut.goes m, tt))

  -- *A frame is made*
  newest_stays : (frames : List Frame) (frame : Frame) (mark : Mark) → frame.mark.packet ≢ mark.packet → IsNewest frames mark → IsNewest (frames ++ frame ∷ []) mark
  newest_stays frames frame mark away newest i above =
      none_stays frames frame (record { packet = mark.packet; frame = i }) (other_packet frame.mark (record { packet = mark.packet; frame = i }) away) (newest i above)

  pub means_stays : (frames : List Frame) (frame : Frame) (to : Heading) (last : Bool) (mark : Mark) → payload_of frames frame.mark ≡ None
      → (last ≡ true → 0 < mark.packet → frame.mark.packet ≢ mark.packet) → Means (in_frames base frames) to last mark → Means (in_frames base (frames ++ frame ∷ [])) to last mark
  means_stays frames frame to last mark none apart (early d e other) = early d e other
  means_stays frames frame to last mark none apart (control d z source message is) = control d z source message (payload_stays frames frame mark _ none is)
  means_stays frames frame to last mark none apart (local d e z) = local d e z
  means_stays frames frame to last mark none apart (plain d e far linked packet is come newest) =
      plain d e far linked packet (payload_stays frames frame mark _ none is) (still_come frames (frames ++ frame ∷ []) mark.packet far.node packet come) (newest_stays frames frame mark (apart e come.counted) newest)
  means_stays frames frame to last mark none apart (labelled d far linked flow bound payload packet is carried come newest) =
      labelled d far linked flow bound payload packet (payload_stays frames frame mark payload none is) carried (still_come frames (frames ++ frame ∷ []) mark.packet far.node packet come)
      (λ e. newest_stays frames frame mark (apart e come.counted) (newest e))
