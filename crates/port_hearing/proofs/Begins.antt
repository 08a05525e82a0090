-- How rules begin: what is left of them once the first step is done

use Rattle.std.proofs.Common.{◌≡◌, ℕ, Bool, true, false, not, List, refl, sym, ap, ◌∙◌, Option, None, Some}
use Rattle.std.specs.Prelude.{fold, max}
use Rattle.net_types.specs.declared.prefix.Addr.{Addr}
use Rattle.net_types.specs.declared.adjacency.Hello.{Hello}
use Rattle.net_types.specs.declared.channel.Channel.{Channel}
use Rattle.net_types.specs.Label.{label_number_of}
use Rattle.ifmp_wire.specs.declared.message.Message.{Message}
use Rattle.ifmp_wire.specs.declared.message.Message.TheVariants.{Adjacency, Redirect, Reclaim, ReclaimAck, LabelRange, Error}
use Rattle.ifmp_wire.specs.Message.{names_of}
use Rattle.keyed_lists.specs.Keyed.{at}
use Rattle.port_model.specs.Desk.{Desk}
use Rattle.port_model.specs.declared.action.Action.{Action}
use Rattle.port_model.specs.Setup.{Setup}
use Rattle.port_model.specs.Labels.{Label, label_number}
use Rattle.port_model.specs.Grants.{Grant, acceptance, grant_on}
use Rattle.port_model.specs.Port.{Port, Work, labels_of}
use Rattle.port_model.specs.Adjacency.{learns, quits}
use Rattle.port_model.specs.Reclaiming.{acknowledged, error_comes, narrowed, ranged, reclaimed, recalls_outside}
use Rattle.port_model.specs.Redirection.{expects, redirected, takes}
use Rattle.port_model.specs.Hearing.{hears, label_by}
use Rattle.port_state.specs.Parts.{changed_session, numbers_of}
use Rattle.port_saying.specs.Rules.{begun}
use Rattle.port_saying.proofs.Sequels.{if_true}
use Rattle.port_hearing.specs.Taking.{follows, is_ignored, is_redirection}

pub ranged_from : (setup : Setup) (port next : Port) (actions : List Action) (n : ℕ) (least greatest : Channel) → next ≡ changed_session port (narrowed least greatest)
    → ranged setup (begun port actions n) least greatest ≡ fold (recalls_outside setup) (begun next actions n) (numbers_of next)
ranged_from setup port next actions n least greatest is = ap (λ (p : Port). fold (recalls_outside setup) (begun p actions n) (numbers_of p)) (sym is)

pub learns_from : (setup : Setup) (desk : Desk) (port next : Port) (actions : List Action) (n known : ℕ) → next ≡ changed_session port (λ s. record s { known = max s.known known })
    → learns setup desk (begun port actions n) known ≡ fold (quits setup desk) (begun next actions n) (numbers_of next)
learns_from setup desk port next actions n known is = ap (λ (p : Port). fold (quits setup desk) (begun p actions n) (numbers_of p)) (sym is)

-- a label that is found among the same labels
pub same_label : (port next : Port) (number : Option ℕ) → labels_of next ≡ labels_of port → label_by next number ≡ label_by port number
same_label port next None is = refl
same_label port next (Some k) is = ap (λ (labels : List Label). at label_number k labels) is

module _ (setup : Setup) (desk : Desk) (port : Port) (actions : List Action) (n : ℕ) (source : Addr) where
  abbrev work : Work
  work = begun port actions n

  abbrev is_taken : Message → Bool
  is_taken message = takes port source (names_of message).sender (names_of message).peer (names_of message).number

  -- a redirection message that is taken
  pub hears_taken : (next : Port) (message : Message) → is_redirection message ≡ true → is_taken message ≡ true → expects work (names_of message).number ≡ begun next actions n
      → next.grants ≡ port.grants → labels_of next ≡ labels_of port → hears setup desk work source message ≡ follows setup desk (begun next actions n) message
  hears_taken next (Adjacency hello) is taken expected grants labels = absurd (cc is)
  hears_taken next (Redirect sender peer number lifetime channel flow) is taken expected grants labels =
      if_true (takes port source sender peer number) (redirected setup desk (expects work number) channel flow lifetime (acceptance setup port.grants channel flow)) work taken
      ∙ ap (λ (w : Work). redirected setup desk w channel flow lifetime (acceptance setup port.grants channel flow)) expected
      ∙ ap (λ (gs : List Grant). redirected setup desk (begun next actions n) channel flow lifetime (acceptance setup gs channel flow)) (sym grants)
  hears_taken next (Reclaim sender peer number channel flow) is taken expected grants labels =
      if_true (takes port source sender peer number) (reclaimed setup (expects work number) channel flow (grant_on port.grants (label_number_of channel))) work taken
      ∙ ap (λ (w : Work). reclaimed setup w channel flow (grant_on port.grants (label_number_of channel))) expected
      ∙ ap (λ (gs : List Grant). reclaimed setup (begun next actions n) channel flow (grant_on gs (label_number_of channel))) (sym grants)
  hears_taken next (ReclaimAck sender peer number channel flow) is taken expected grants labels =
      if_true (takes port source sender peer number) (acknowledged setup desk (expects work number) flow (label_by port (label_number_of channel))) work taken
      ∙ ap (λ (w : Work). acknowledged setup desk w flow (label_by port (label_number_of channel))) expected
      ∙ ap (acknowledged setup desk (begun next actions n) flow) (sym (same_label port next (label_number_of channel) labels))
  hears_taken next (LabelRange sender peer number least greatest) is taken expected grants labels =
      if_true (takes port source sender peer number) (ranged setup (expects work number) least greatest) work taken
      ∙ ap (λ (w : Work). ranged setup w least greatest) expected
  hears_taken next (Error sender peer number code channel) is taken expected grants labels =
      if_true (takes port source sender peer number) (error_comes setup (expects work number) code (label_by port (label_number_of channel))) work taken
      ∙ ap (λ (w : Work). error_comes setup w code (label_by port (label_number_of channel))) expected
      ∙ ap (error_comes setup (begun next actions n) code) (sym (same_label port next (label_number_of channel) labels))

of_not : (b : Bool) → not b ≡ true → b ≡ false
of_not true e = absurd (cc e)
of_not false e = refl

-- a message that isn't taken is ignored, and one that is taken isn't
pub ignored_not : (port : Port) (source : Addr) (message : Message) → is_redirection message ≡ true → is_ignored port source message ≡ true
    → takes port source (names_of message).sender (names_of message).peer (names_of message).number ≡ false
ignored_not port source (Adjacency hello) is ignored = absurd (cc is)
ignored_not port source (Redirect sender peer number lifetime channel flow) is ignored = of_not (takes port source sender peer number) ignored
ignored_not port source (Reclaim sender peer number channel flow) is ignored = of_not (takes port source sender peer number) ignored
ignored_not port source (ReclaimAck sender peer number channel flow) is ignored = of_not (takes port source sender peer number) ignored
ignored_not port source (LabelRange sender peer number least greatest) is ignored = of_not (takes port source sender peer number) ignored
ignored_not port source (Error sender peer number code channel) is ignored = of_not (takes port source sender peer number) ignored

-- *A redirection message* is one that isn't of the adjacency
pub is_other : (message : Message) → ((hello : Hello) → message ≡ Adjacency hello → ⊥) → is_redirection message ≡ true
is_other (Adjacency hello) other = absurd (other hello refl)
is_other (Redirect sender peer number lifetime channel flow) other = refl
is_other (Reclaim sender peer number channel flow) other = refl
is_other (ReclaimAck sender peer number channel flow) other = refl
is_other (LabelRange sender peer number least greatest) other = refl
is_other (Error sender peer number code channel) other = refl
