-- rules that follow one another, and what keeps the numbers of a port from being spent

use Rattle.std.proofs.Common.{◌≡◌, ℕ, Bool, true, false, List, Option, None, Some, refl, sym, ◌∙◌, ap, subst, if◌then◌else◌}
use Rattle.std.specs.Prelude.{nat_lt}
use Rattle.std.specs.Option.{option_map}
use Rattle.law_port_views.proofs.law_port_facts.Keyed.{on_both, on_each}
use Rattle.law_port_views.specs.law_label_line.Cells.{Role, Cell}
use Rattle.law_port_views.specs.law_label_line.Line.{Line}
use Rattle.law_port_views.specs.port_model.Words.{Label, Session, Work, halts, with_session, with_label, halts_if_spent, is_spent, last_number}
use Rattle.law_port_views.specs.Link.{LinkLabel}
use Rattle.law_port_views.specs.Shown.{Shown}
use Rattle.law_port_views.specs.Reaching.{Leads}
use Rattle.law_port_views.proofs.Reach.{stays, leads_self, leads_on}
use Rattle.law_port_views.proofs.Recalling.{room_session}
use Rattle.law_label_steps.specs.Follows.{IsUnspent, Follows}

module _ (role : Role) (link : LinkLabel) (like : Type 0) (queued : List Cell) where
  pub follows_self : (w : Work) → Follows role link like queued w w
  follows_self w = (λ n. n, leads_self role link like queued w)

  pub follows_on : (u v w : Work) → Follows role link like queued u v → Follows role link like queued v w → Follows role link like queued u w
  follows_on u v w f g = (λ n. g.0 (f.0 n), leads_on role link like queued u v w f.1 g.1)

  -- either way of a test
  pub follows_if : (u v w : Work) (b : Bool) → (b ≡ true → Follows role link like queued u v) → (b ≡ false → Follows role link like queued u w)
      → Follows role link like queued u (if b then v else w)
  follows_if u v w true f g = f refl
  follows_if u v w false f g = g refl

  -- the line stays as it is
  pub follows_still : (v w : Work) → (IsUnspent v → IsUnspent w)
      → ((line : Line) → Shown role link like queued v line → Shown role link like queued w line) → Follows role link like queued v w
  follows_still v w keeps shows = (keeps, λ line s. stays role link like queued w line (shows line s))

  -- a port that is halted does nothing, and another one this
  pub leads_live : (v w : Work) → (v.halted ≡ true → w ≡ v) → (v.halted ≡ false → Leads role link like queued v w) → Leads role link like queued v w
  leads_live v w idle leads = either v.halted refl
    where
      either : (b : Bool) → v.halted ≡ b → Leads role link like queued v w
      either true h = subst (λ (z : Work). Leads role link like queued v z) (sym (idle h)) (leads_self role link like queued v)
      either false h = leads h

-- *The numbers* stay unspent
pub unspent_session : (w : Work) (change : Session → Session) → ((z : Session) → w.port.session ≡ Some z → (change z).number ≡ z.number)
    → IsUnspent w → IsUnspent (with_session w change)
unspent_session w change keeps n = on_both IsUnspent w.halted w (record w { port = record w.port { session = option_map change w.port.session } })
    n (λ live. kept w.port.session refl ∙ n live)
  where
    kept : (o : Option Session) → w.port.session ≡ o → is_spent (option_map change o) ≡ is_spent o
    kept None e = refl
    kept (Some s) e = ap (λ (k : ℕ). nat_lt last_number k) (keeps s e)

pub unspent_label : (w : Work) (x : Label) → IsUnspent w → IsUnspent (with_label w x)
unspent_label w x n = room_session w _ (λ z. refl) n

-- for one that says its last number is halted
pub unspent_closes : (w : Work) → IsUnspent (halts_if_spent w)
unspent_closes w = on_each IsUnspent (is_spent w.port.session) (halts w) w (λ t live. absurd (cc live)) (λ f live. f)
