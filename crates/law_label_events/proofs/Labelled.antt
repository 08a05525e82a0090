-- a cell that a switch puts out to a link under a label: nothing to the line, or a cell of its label where its grant is
-- lent

use Rattle.std.proofs.Common.{◌≡◌, ◌≢◌, ℕ, Bool, true, false, List, [], ◌∷◌, ◌++◌, refl, sym, ◌∙◌, ap, if◌then◌else◌}
use Rattle.world_model.specs.Words.{Channel, label_channel_of, number_of_channel, is_label_number, Cell, Frame, payload_of, default_channel, same_channel}
use Rattle.world_model.proofs.net_types.Labels.{number_of_channel-label_channel_of}
use Rattle.law_controller_lifts.specs.law_label_line.Cells as lines
use Rattle.law_controller_lifts.specs.law_label_line.Cells.{Role, Downstream, Upstream}
use Rattle.law_controller_lifts.specs.law_label_line.Line.{Line, Grant, NoGrant, Idle, ByController, ByInput, Leaving}
use Rattle.law_controller_lifts.specs.law_label_line.Upstream.{joins, switches_labelled}
use Rattle.law_controller_lifts.specs.law_label_line.Moves.{SwitchLabelled}
use Rattle.law_controller_lifts.specs.law_port_views.Link.{LinkLabel, other}
use Rattle.law_controller_lifts.specs.law_port_views.Shown.{IsLent}
use Rattle.law_controller_lifts.specs.law_shown_cells.Seen.{Nothing, Word}
use Rattle.law_controller_lifts.specs.law_shown_cells.Label.{OnLink, seen, seen_payload, on_label}
use Rattle.law_controller_lifts.proofs.law_shown_cells.Shows.{shows_join, shows_behind, one_word, one_hidden}
use Rattle.law_controller_lifts.proofs.law_shown_cells.Frames.{same_self, differ, seen_elsewhere}
use Rattle.law_controller_lifts.specs.law_controller_views.Ends.{Pieces, Net, Goes, idle}
use Rattle.law_controller_lifts.specs.law_controller_views.Queues.{crossed}
use Rattle.law_controller_lifts.proofs.law_controller_views.Parts.{both}
use Rattle.law_controller_lifts.proofs.law_controller_views.Sends.{label_vci}

-- *Channels of labels*
pub label_channels : (n m : ℕ) → n ≢ m → label_channel_of n ≢ label_channel_of m
label_channels n m apart e = apart (sym (number_of_channel-label_channel_of n) ∙ (ap number_of_channel e ∙ number_of_channel-label_channel_of m))

pub label_apart : (n : ℕ) → is_label_number n ≡ true → label_channel_of n ≢ default_channel
label_apart n is e = label_vci (label_channel_of n) is (ap (λ (c : Channel). c.vci) e)

module _ (link : LinkLabel) (frames : List Frame) (d : Cell) where
  -- from the upstream end it is of the label, where it stands on the label's channel
  pub seen_label : is_label_number link.label ≡ true → d.header.channel ≡ label_channel_of link.label → seen OnLink Upstream link frames d ≡ Word (lines.Labelled 0)
  seen_label is e =
      ap (λ (b : Bool). if b then seen_payload Upstream link d.header.last (payload_of frames d.mark) else (if same_channel d.header.channel (label_channel_of link.label) then on_label Upstream else Nothing))
      (ap (λ (z : Channel). same_channel z default_channel) e ∙ differ (label_channel_of link.label) default_channel (label_apart link.label is))
      ∙ ap (λ (b : Bool). if b then on_label Upstream else Nothing)
      (ap (λ (z : Channel). same_channel z (label_channel_of link.label)) e ∙ same_self (label_channel_of link.label))

  -- and nothing on another's
  pub seen_other : (n : ℕ) → is_label_number n ≡ true → n ≢ link.label → d.header.channel ≡ label_channel_of n → seen OnLink Upstream link frames d ≡ Nothing
  seen_other n is apart e = seen_elsewhere OnLink Upstream link frames d (label_channel_of n) d.mark d.header.last (label_apart n is) (label_channels n link.label apart) (e, refl, refl)

  -- from the downstream end it is nothing
  nothing_either : (b : Bool) → (if b then on_label Downstream else Nothing) ≡ Nothing
  nothing_either true = refl
  nothing_either false = refl

  pub seen_down : (n : ℕ) → is_label_number n ≡ true → d.header.channel ≡ label_channel_of n → seen OnLink Downstream link frames d ≡ Nothing
  seen_down n is e =
      ap (λ (b : Bool). if b then seen_payload Downstream link d.header.last (payload_of frames d.mark) else (if same_channel d.header.channel (label_channel_of link.label) then on_label Downstream else Nothing))
      (ap (λ (z : Channel). same_channel z default_channel) e ∙ differ (label_channel_of n) default_channel (label_apart n is))
      ∙ nothing_either (same_channel d.header.channel (label_channel_of link.label))

module _ (link : LinkLabel) (like : Type 0) where
  -- *A cell that shows nothing* is put out
  behind : (role : Role) (pieces : Pieces) (line : Line) (d : Cell) → seen OnLink role link pieces.frames d ≡ Nothing → Net link like pieces idle line
      → Net link like (crossed role pieces (pieces.output role ++ d ∷ []) (pieces.waiting (other role))) idle line
  behind Downstream pieces line d none n = record {
    end = both _ (n.end Downstream) (n.end Upstream);
    waiting = both _ (n.waiting Downstream) (n.waiting Upstream);
    output = both _ (shows_behind (n.output Downstream) (one_hidden none)) (n.output Upstream);
    unmade = n.unmade;
  }
  behind Upstream pieces line d none n = record {
    end = both _ (n.end Downstream) (n.end Upstream);
    waiting = both _ (n.waiting Downstream) (n.waiting Upstream);
    output = both _ (n.output Downstream) (shows_behind (n.output Upstream) (one_hidden none));
    unmade = n.unmade;
  }

  pub behind_goes : (role : Role) (pieces : Pieces) (line : Line) (d : Cell) → seen OnLink role link pieces.frames d ≡ Nothing → Net link like pieces idle line
      → Goes link like (crossed role pieces (pieces.output role ++ d ∷ []) (pieces.waiting (other role))) idle line
  behind_goes role pieces line d none n = record { moves = []; after = line; is = refl; net = behind role pieces line d none n }

  -- *A cell of the label* is, where the grant is lent
  labelled : (pieces : Pieces) (line : Line) (flow : ℕ) (d : Cell) → seen OnLink Upstream link pieces.frames d ≡ Word (lines.Labelled 0) → Net link like pieces idle line
      → Net link like (crossed Upstream pieces (pieces.output Upstream ++ d ∷ []) (pieces.waiting Downstream)) idle (joins line flow)
  labelled pieces line flow d is n = record {
    end = both _ (n.end Downstream) (n.end Upstream);
    waiting = both _ (n.waiting Downstream) (n.waiting Upstream);
    output = both _ (n.output Downstream) (shows_join (n.output Upstream) (one_word {t = lines.Labelled flow} is));
    unmade = n.unmade;
  }

  lent_goes : (pieces : Pieces) (line : Line) (d : Cell) (grant : Grant) → line.grant ≡ grant → IsLent grant → seen OnLink Upstream link pieces.frames d ≡ Word (lines.Labelled 0)
      → Net link like pieces idle line → Goes link like (crossed Upstream pieces (pieces.output Upstream ++ d ∷ []) (pieces.waiting Downstream)) idle line
  lent_goes pieces line d NoGrant is lent word n = absurd lent
  lent_goes pieces line d (Idle flow) is lent word n = absurd lent
  lent_goes pieces line d (ByController flow) is lent word n = absurd lent
  lent_goes pieces line d (ByInput flow) is lent word n =
      record { moves = SwitchLabelled ∷ []; after = joins line flow; is = ap (switches_labelled line) is; net = labelled pieces line flow d word n }
  lent_goes pieces line d (Leaving flow owed) is lent word n =
      record { moves = SwitchLabelled ∷ []; after = joins line flow; is = ap (switches_labelled line) is; net = labelled pieces line flow d word n }

  pub labelled_goes : (pieces : Pieces) (line : Line) (d : Cell) → like → seen OnLink Upstream link pieces.frames d ≡ Word (lines.Labelled 0)
      → Net link like pieces idle line → Goes link like (crossed Upstream pieces (pieces.output Upstream ++ d ∷ []) (pieces.waiting Downstream)) idle line
  labelled_goes pieces line d there word n = lent_goes pieces line d line.grant refl ((n.end Upstream).shown.lent there) word n
