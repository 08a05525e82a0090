-- cells of which a list shows that they are as a line tells of its words, and so that nobody uses a label by them

use Rattle.std.proofs.Common.{◌≡◌, ℕ, zero, suc, arith, Bool, true, false, List, [], ◌∷◌, Option, None, Some, refl, sym, ◌∙◌, ap, subst, if◌then◌else◌}
use Rattle.std.specs.Prelude.{Contains, ◌&&◌, ◌==◌}
use Rattle.std.specs.Option.{option_map, option_and_then}
use Rattle.law_causes.specs.world_model.Words.{Instance, is_label_number, label_channel_of, Cell, FlowId, default_unwrapped, Redirect, source_of, Frame, payload_of, default_channel, same_channel, ifmp_in, ifmp_of, ifmp_under}
use Rattle.law_causes.specs.world_model.ifmp_wire.declared.message.Message.{Message}
use Rattle.law_world_views.specs.ordered_lists.Ordered.{Every}
use Rattle.law_label_line.specs.Cells as lines
use Rattle.law_label_line.specs.Cells.{Role, Downstream, Upstream}
use Rattle.law_label_line.specs.Law.{IsNoUser}
use Rattle.law_causes.specs.world_model.Ways.{ok_of}
use Rattle.law_world_views.specs.law_port_views.Link.{LinkLabel, other}
use Rattle.law_world_views.specs.law_port_views.Heard.{is_own, heard_by}
use Rattle.law_world_views.proofs.law_port_views.Recalling.{names_own}
use Rattle.law_world_views.specs.law_port_views.Flows.{flow_number}
use Rattle.law_world_views.specs.law_shown_cells.Seen.{Nothing, Word, Unknown, hidden, word}
use Rattle.law_world_views.specs.law_shown_cells.Label.{Told, told_in, told_of, seen_payload, seen_packet, seen_message, Where, channel_at, on_label, seen, erased, ShowsCells}

-- what a list contains
pub every_contained : {A : Type 0} (P : A → Type 0) (xs : List A) (x : A) → Every P xs → Contains xs x → P x
every_contained P [] x all has = absurd (omega (arith, has.1))
every_contained {A} P (y ∷ xs) x all (zero, less, is) = subst P is all.0
every_contained {A} P (y ∷ xs) x all (suc k, less, is) = every_contained P xs x all.1 (k, omega (arith, less), is)

-- *What a list shows of a cell*, where each word that it has is as Holds says: nothing, or such a word
module _ (Holds : lines.Cell → Type 0) (place : Where) (by : Role) (link : LinkLabel) (frames : List Frame) where
  pub data IsQuiet (c : Cell) : Type 0 where
    quiet : seen place by link frames c ≡ Nothing → IsQuiet c
    says : (w : lines.Cell) → Holds w → seen place by link frames c ≡ Word (erased w) → IsQuiet c

  quiet_all : (cells : List Cell) (words : List lines.Cell) → ShowsCells place by link frames cells words → Every Holds words → Every IsQuiet cells
  quiet_all [] words shows all = tt
  quiet_all (cell ∷ cells) words (hidden e more) all = (quiet e, quiet_all cells words more all)
  quiet_all (cell ∷ cells) (w ∷ words) (word e more) all = (says w all.0 e, quiet_all cells words more all.1)

  pub quiet_in : (cells : List Cell) (words : List lines.Cell) → ShowsCells place by link frames cells words → Every Holds words → (c : Cell) → Contains cells c → IsQuiet c
  quiet_in cells words shows all c has = every_contained IsQuiet cells c (quiet_all cells words shows all) has

  known : (c : Cell) → IsQuiet c → seen place by link frames c ≡ Unknown → ⊥
  known c (quiet e) is = cc (sym e ∙ is)
  known c (says v none e) is = cc (sym e ∙ is)

  module _ (erases : (w : lines.Cell) → Holds w → Holds (erased w)) where
    holds_of : (c : Cell) (w : lines.Cell) → IsQuiet c → seen place by link frames c ≡ Word w → Holds w
    holds_of c w (quiet e) is = absurd (cc (sym e ∙ is))
    holds_of c w (says v holds e) is = subst Holds (same (erased v) w (sym e ∙ is)) (erases v holds)
      where
        same : (a b : lines.Cell) → Word a ≡ Word b → a ≡ b
        same a b e = cc

    told_is : (o : Option (List ℕ)) (m : Message) → option_and_then ifmp_in o ≡ Some m → (item : Told) × (option_and_then told_in o ≡ Some item) × (item.message ≡ m)
    told_is None m e = absurd (cc e)
    told_is (Some packet) m e = (record { source = source_of packet; message = m }, ap (option_map (λ message. record { source = source_of packet; message = message })) e, refl)

    -- *A message* that is heard as this one on the default channel
    pub holds_message : (c : Cell) (m : Message) (x : lines.Message) → same_channel c.header.channel (channel_at place default_channel) ≡ true
        → ifmp_under frames c.mark ≡ Some m → heard_by by link.label m ≡ Some x → IsQuiet c → Holds (lines.Default c.header.last x)
    holds_message c m x default message heard q = at_payload (payload_of frames c.mark) refl message
      where
        on_default : seen place by link frames c ≡ seen_payload by link c.header.last (payload_of frames c.mark)
        on_default = ap (λ (b : Bool). if b then seen_payload by link c.header.last (payload_of frames c.mark) else (if same_channel c.header.channel (channel_at place (label_channel_of link.label)) then on_label by else Nothing)) default

        at_payload : (o : Option (List ℕ)) → payload_of frames c.mark ≡ o → option_and_then ifmp_of o ≡ Some m → Holds (lines.Default c.header.last x)
        at_payload None e f = absurd (cc f)
        at_payload (Some payload) e f = in_words (told_is (ok_of (default_unwrapped payload)) m f)
          where
            in_words : (item : Told) × (told_of payload ≡ Some item) × (item.message ≡ m) → Holds (lines.Default c.header.last x)
            in_words (item, is, same) = by_own ((item.source.0 == (link.address by).0) && is_own (link.address (other by)) item.message) refl
              where
                seen_is : seen place by link frames c ≡ (if (item.source.0 == (link.address by).0) && is_own (link.address (other by)) item.message then seen_message c.header.last (heard_by by link.label item.message) else Unknown)
                seen_is = on_default ∙ (ap (seen_payload by link c.header.last) e ∙ ap (seen_packet by link c.header.last) is)

                by_own : (b : Bool) → ((item.source.0 == (link.address by).0) && is_own (link.address (other by)) item.message) ≡ b → Holds (lines.Default c.header.last x)
                by_own true t = holds_of c (lines.Default c.header.last x) q
                    (seen_is ∙ (ap (λ (b : Bool). if b then seen_message c.header.last (heard_by by link.label item.message) else Unknown) t
                    ∙ (ap (λ (y : Message). seen_message c.header.last (heard_by by link.label y)) same ∙ ap (seen_message c.header.last) heard)))
                by_own false t = absurd (known c q (seen_is ∙ ap (λ (b : Bool). if b then seen_message c.header.last (heard_by by link.label item.message) else Unknown) t))

erased_user : (w : lines.Cell) → IsNoUser w → IsNoUser (erased w)
erased_user (lines.Labelled flow) none = none
erased_user (lines.Default last message) none = none

module _ (place : Where) (link : LinkLabel) (frames : List Frame) (number : is_label_number link.label ≡ true) where
  -- *A cell under the label*
  pub no_labelled : (c : Cell) → same_channel c.header.channel (channel_at place default_channel) ≡ false
      → same_channel c.header.channel (channel_at place (label_channel_of link.label)) ≡ true → IsQuiet IsNoUser place Upstream link frames c → ⊥
  no_labelled c other is q = holds_of IsNoUser place Upstream link frames erased_user c (lines.Labelled 0) q
      (ap (λ (b : Bool). if b then seen_payload Upstream link c.header.last (payload_of frames c.mark) else (if same_channel c.header.channel (channel_at place (label_channel_of link.label)) then on_label Upstream else Nothing)) other
      ∙ ap (λ (b : Bool). if b then on_label Upstream else Nothing) is)

  -- *A REDIRECT*
  pub no_redirect : (c : Cell) (sender peer : Instance) (n lifetime : ℕ) (flow : FlowId) → same_channel c.header.channel (channel_at place default_channel) ≡ true
      → ifmp_under frames c.mark ≡ Some (Redirect sender peer n lifetime (label_channel_of link.label) flow) → IsQuiet IsNoUser place Downstream link frames c → ⊥
  no_redirect c sender peer n lifetime flow default message q =
      holds_message IsNoUser place Downstream link frames erased_user c (Redirect sender peer n lifetime (label_channel_of link.label) flow) (lines.Redirect sender.0 peer.0 n (flow_number flow)) default message
      (ap (λ (b : Bool). Some (if b then lines.Redirect sender.0 peer.0 n (flow_number flow) else lines.Other sender.0 peer.0 n)) (names_own link.label link.label number refl)) q
