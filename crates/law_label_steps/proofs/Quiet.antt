-- a port changes what its line doesn't follow of the session

use Rattle.std.proofs.Common.{◌≡◌, List, [], Option, None, Some, refl, sym, ◌∙◌, ap}
use Rattle.std.specs.Prelude.{is_some}
use Rattle.std.specs.Option.{option_map, option_map_or}
use Rattle.law_port_views.proofs.law_port_facts.Keyed.{on_both}
use Rattle.law_port_views.specs.port_model.Words.{at, label_number, Session, Work, with_session, label_at}
use Rattle.law_port_views.specs.law_label_line.Cells.{Role, Downstream, Upstream, Cell}
use Rattle.law_port_views.specs.law_label_line.Line.{Line}
use Rattle.law_port_views.specs.Link.{LinkLabel}
use Rattle.law_port_views.specs.Shown.{label_of, flow_of, Shown}
use Rattle.law_label_steps.specs.Follows.{Follows}
use Rattle.law_label_steps.proofs.Follow.{follows_still, unspent_session}

-- what a line follows of a session
pub record IsAlike (before after : Session) : Type 0 where
  pub labels : after.labels ≡ before.labels
  pub number : after.number ≡ before.number
  pub known : after.known ≡ before.known
  pub expected : after.expected ≡ before.expected

module _ (link : LinkLabel) (like : Type 0) (queued : List Cell) where
  kept : {A : Type 0} (change : Session → Session) (f : Session → A) (other : A) (o : Option Session)
      → ((z : Session) → o ≡ Some z → f (change z) ≡ f z) → option_map_or f (option_map change o) other ≡ option_map_or f o other
  kept change f other None e = refl
  kept change f other (Some s) e = e s refl

  open_still : (change : Session → Session) (o : Option Session) → is_some (option_map change o) ≡ is_some o
  open_still change None = refl
  open_still change (Some s) = refl

  alike_shown : (role : Role) (w : Work) (change : Session → Session) (line : Line)
      → ((z : Session) → w.port.session ≡ Some z → IsAlike z (change z)) → Shown role link like queued w line
      → Shown role link like queued (record w { port = record w.port { session = option_map change w.port.session } }) line
  alike_shown Downstream w change line alike h =
      let same : label_at (record w.port { session = option_map change w.port.session }) link.label ≡ label_at w.port link.label
      = ap (at label_number link.label) (kept change (λ (s : Session). s.labels) [] w.port.session (λ z e. (alike z e).labels)) in
      record {
        side = h.side;
        session = open_still change w.port.session ∙ h.session;
        label = h.label ∙ ap label_of (sym same);
        flow = h.flow ∙ ap (flow_of line.flow) (sym same);
        number = h.number ∙ sym (kept change (λ (s : Session). s.number) 1 w.port.session (λ z e. (alike z e).number));
        unspent = h.unspent;
        known = h.known ∙ sym (kept change (λ (s : Session). s.known) 1 w.port.session (λ z e. (alike z e).known));
        reassembled = h.reassembled;
        drawn = h.drawn;
        own = h.own;
        sent = h.sent;
      }
  alike_shown Upstream w change line alike h = record {
    side = h.side;
    session = open_still change w.port.session ∙ h.session;
    grant = h.grant;
    once = h.once;
    lent = h.lent;
    expected = h.expected ∙ sym (kept change (λ (s : Session). s.expected) 1 w.port.session (λ z e. (alike z e).expected));
    drawn = h.drawn;
    own = h.own;
    sent = h.sent;
  }

  pub alike_stays : (role : Role) (w : Work) (change : Session → Session) (line : Line)
      → ((z : Session) → w.port.session ≡ Some z → IsAlike z (change z)) → Shown role link like queued w line
      → Shown role link like queued (with_session w change) line
  alike_stays role w change line alike s = on_both (λ (v : Work). Shown role link like queued v line) w.halted w
      (record w { port = record w.port { session = option_map change w.port.session } }) s (alike_shown role w change line alike s)

  pub alike_follows : (role : Role) (w : Work) (change : Session → Session) → ((z : Session) → w.port.session ≡ Some z → IsAlike z (change z))
      → Follows role link like queued w (with_session w change)
  alike_follows role w change alike = follows_still role link like queued w (with_session w change)
      (unspent_session w change (λ z e. (alike z e).number)) (λ line s. alike_stays role w change line alike s)
