-- what the upstream end makes of a redirection message keeps the line

use Rattle.std.proofs.Common.{◌≡◌, ℕ, ◌+◌, Bool, true, false, List, [], ◌∷◌, ◌++◌, append_assoc, refl, sym, subst, arith}
use Rattle.std.specs.Prelude.{nat_eq, nat_le, ◌&&◌, if◌then◌else◌}
use Rattle.std.proofs.lemmas.Bool.{eqb-true}
use Rattle.std.proofs.lemmas.Bool.Decides.{nat_tests}
use Rattle.adjacency_table.specs.declared.State.{State}
use Rattle.adjacency_table.specs.declared.State.TheVariants.{Estab}
use Rattle.ordered_lists.proofs.Exchange.{exchange_block}
use Rattle.law_label_line.specs.Cells.{Downstream, Message, Hello, Redirect, Reclaim, ReclaimAck, Other, Cell, Default, cells}
use Rattle.law_label_line.specs.Line.{Grant, NoGrant, Idle, ByController, ByInput, Leaving, Line}
use Rattle.law_label_line.specs.Upstream.{takes, expects, redirected, reclaimed, acknowledges, upstream_hears, hears_upstream}
use Rattle.law_label_line.proofs.Tables.{last_of, up_ack, Side, Fits, Before, Good, Changes}
use Rattle.law_label_line.proofs.UpstreamFacts.{numbers_redirect, numbers_reclaim, takes_number, takes_number_granted, takes_number_owed, accepts, acknowledges_none, acknowledges_grant, owes}
use Rattle.law_label_line.proofs.Trip.{granted, hello_of, grant_of, side_of, IsKept, turned_up, sent_up, up_at, chain_up}
use Rattle.law_label_line.proofs.WaySteps.{dropped_up}
use Rattle.law_label_line.proofs.UpstreamHears.{greeted_up}

-- the message at the front of the chain is replaced by another
replaced : (line : Line) (rest : List Cell) (m m' : Message)
    → ((a : Side) → Changes a a (last_of m ∷ []) (last_of m' ∷ [])) → IsKept (chain_up line (last_of m ∷ rest))
    → IsKept (chain_up line (last_of m' ∷ rest))
replaced line rest m m' f k =
    let a : Side = side_of line k.late in
    let behind : List Cell = cells (chain_up line rest).to_upstream in
    let j : Good a ((cells line.to_downstream ++ (hello_of line ∷ grant_of line)) ++
    (last_of m' ∷ behind)) = exchange_block (Fits a) (Fits a) (Before a) (Before a) (cells line.to_downstream ++
    (hello_of line ∷ grant_of line)) (last_of m ∷ []) behind (last_of m' ∷ []) (f a) (subst
    (λ (z : List Cell). Good a z)
    (sym (append_assoc (cells line.to_downstream) (hello_of line ∷ grant_of line) (last_of m ∷ behind)))
    k.good) in
    record {
      late = k.late;
      good = subst (λ (z : List Cell). Good a z)
          (append_assoc (cells line.to_downstream) (hello_of line ∷ grant_of line) (last_of m' ∷ behind)) j;
      end = k.end;
      grant = k.grant;
    }

both_right : (s x r u e n : ℕ) → (nat_eq s x && nat_eq r u) && nat_le e n ≡ true → (r ≡ u) × (s ≡ x)
both_right s x r u e n h = grind (arith, nat_tests)

-- in Estab the upstream end stored x and expects e; a message of sender s for receiver r stands at the
-- front of its chain
module _ (line : Line) (x e : ℕ) (rest : List Cell) (s r n : ℕ) where
  abbrev Estab_line : Grant → List Cell → Line
  Estab_line grant chain = chain_up (up_at line Estab x e grant) chain

  -- what stands at the end changes with the number that it expects
  turned : (grant grant' : Grant) (m : Message) (late : Bool)
      → (k : IsKept (Estab_line grant (last_of m ∷ rest)))
      → Changes (side_of line k.late) (side_of line late)
      (up_ack line.upstream.own x e ∷ (granted grant line.upstream.own x ++ (last_of m ∷ [])))
      (up_ack line.upstream.own x (n + 1) ∷ granted grant' line.upstream.own x)
      → IsKept (record (expects (Estab_line grant rest) n) { grant = grant' })
  turned grant grant' m late k f =
      let behind : List Cell = cells (chain_up line rest).to_upstream in
      let h : Good (side_of line k.late) (cells line.to_downstream ++ (up_ack line.upstream.own x e ∷
      ((granted grant line.upstream.own x ++ (last_of m ∷ [])) ++ behind))) = rw (append_assoc (granted grant
      line.upstream.own x) (last_of m ∷ []) behind) k.good in
      record {
        late = late;
        good = turned_up (side_of line k.late) (side_of line late) line.to_downstream _
            (up_ack line.upstream.own x (n + 1) ∷ granted grant' line.upstream.own x) behind f h;
        end = k.end;
        grant = tt;
      }

  module _ (meant : r ≡ line.upstream.own) (known : s ≡ x) where
    -- only the number is taken
    number_taken : (grant : Grant) → IsKept (Estab_line grant (last_of (Other s r n) ∷ rest))
        → IsKept (expects (Estab_line grant rest) n)
    number_taken NoGrant k = turned NoGrant NoGrant (Other s r n) k.late k
        (takes_number (side_of line k.late) line.upstream.own x e s r n meant known)
    number_taken (Idle g) k = turned (Idle g) (Idle g) (Other s r n) k.late k
        (takes_number_granted (side_of line k.late) line.upstream.own x e s r n g meant known)
    number_taken (ByController g) k = turned (ByController g) (ByController g) (Other s r n) k.late k
        (takes_number_granted (side_of line k.late) line.upstream.own x e s r n g meant known)
    number_taken (ByInput g) k = turned (ByInput g) (ByInput g) (Other s r n) k.late k
        (takes_number_granted (side_of line k.late) line.upstream.own x e s r n g meant known)
    number_taken (Leaving g false) k = turned (Leaving g false) (Leaving g false) (Other s r n) k.late k
        (takes_number_granted (side_of line k.late) line.upstream.own x e s r n g meant known)
    number_taken (Leaving g true) k = turned (Leaving g true) (Leaving g true) (Other s r n) true k
        (takes_number_owed (side_of line k.late) line.upstream.own x e s r n g meant known)

    -- REDIRECT
    redirect_number : (grant : Grant) (f : ℕ) → IsKept (Estab_line grant (last_of (Redirect s r n f) ∷ rest))
        → IsKept (expects (Estab_line grant rest) n)
    redirect_number grant f k = number_taken grant (replaced (up_at line Estab x e grant) rest (Redirect s r n f)
        (Other s r n) (λ a. numbers_redirect a s r n f) k)

    redirect_taken : (grant : Grant) (room : Bool) (f : ℕ)
        → IsKept (Estab_line grant (last_of (Redirect s r n f) ∷ rest))
        → IsKept (redirected (expects (Estab_line grant rest) n) grant room f)
    redirect_taken NoGrant true f k = turned NoGrant (Idle f) (Redirect s r n f) k.late k
        (accepts (side_of line k.late) line.upstream.own x e s r n f meant known)
    redirect_taken NoGrant false f k = redirect_number NoGrant f k
    redirect_taken grant room f k = redirect_number grant f k

    -- RECLAIM
    reclaim_number : (grant : Grant) (f : ℕ) → IsKept (Estab_line grant (last_of (Reclaim s r n f) ∷ rest))
        → IsKept (expects (Estab_line grant rest) n)
    reclaim_number grant f k = number_taken grant (replaced (up_at line Estab x e grant) rest (Reclaim s r n f)
        (Other s r n) (λ a. numbers_reclaim a s r n f) k)

    reclaim_acked : (grant : Grant) (f : ℕ)
        → ((a : Side) → Changes a (record a { late = false })
        (up_ack line.upstream.own x e ∷ (granted grant line.upstream.own x ++ (last_of (Reclaim s r n f) ∷ [])))
        (last_of (ReclaimAck line.upstream.own x f) ∷ up_ack line.upstream.own x (n + 1) ∷ []))
        → IsKept (Estab_line grant (last_of (Reclaim s r n f) ∷ rest))
        → IsKept (acknowledges (record (expects (Estab_line grant rest) n) { grant = NoGrant }) f)
    reclaim_acked grant f change k =
        let behind : List Cell = cells (chain_up line rest).to_upstream in
        let h : Good (side_of line k.late) (cells line.to_downstream ++ (up_ack line.upstream.own x e ∷
        ((granted grant line.upstream.own x ++ (last_of (Reclaim s r n f) ∷ [])) ++ behind))) = rw (append_assoc
        (granted grant line.upstream.own x) (last_of (Reclaim s r n f) ∷ []) behind) k.good in
        record {
          late = false;
          good = sent_up (side_of line k.late) (side_of line false) line.to_downstream
              (ReclaimAck line.upstream.own x f) _ (up_ack line.upstream.own x (n + 1) ∷ []) behind
              (change (side_of line k.late)) h;
          end = k.end;
          grant = tt;
        }

    -- of the grant's flow, or of another
    of_flow : (grant : Grant) (f g : ℕ) (line' : Line) → (nat_eq f g ≡ true → IsKept line')
        → IsKept (Estab_line grant (last_of (Reclaim s r n f) ∷ rest))
        → IsKept (if nat_eq f g then line' else expects (Estab_line grant rest) n)
    of_flow grant f g line' right k = elim (nat_eq f g)
        as (λ b. nat_eq f g ≡ b → IsKept (if b then line' else expects (Estab_line grant rest) n)) [
          | true ↦ right
          | false ↦ λ wrong. reclaim_number grant f k
        ] refl

    reclaim_taken : (grant : Grant) (f : ℕ) → IsKept (Estab_line grant (last_of (Reclaim s r n f) ∷ rest))
        → IsKept (reclaimed (expects (Estab_line grant rest) n) grant f)
    reclaim_taken NoGrant f k = reclaim_acked NoGrant f
        (λ a. acknowledges_none a line.upstream.own x e s r n f meant known) k
    reclaim_taken (Idle g) f k = of_flow (Idle g) f g
        (acknowledges (record (expects (Estab_line (Idle g) rest) n) { grant = NoGrant }) f)
        (λ t. reclaim_acked (Idle g) f (λ a. acknowledges_grant a line.upstream.own x e s r n f g meant known) k) k
    reclaim_taken (ByController g) f k = of_flow (ByController g) f g (acknowledges
        (record (expects (Estab_line (ByController g) rest) n) { grant = NoGrant }) f) (λ t. reclaim_acked
        (ByController g) f (λ a. acknowledges_grant a line.upstream.own x e s r n f g meant known) k) k
    reclaim_taken (ByInput g) f k = of_flow (ByInput g) f g (record (expects (Estab_line (ByInput g) rest) n)
        { grant = Leaving g true }) (λ t. turned (ByInput g) (Leaving g true) (Reclaim s r n f) true k
        (owes (side_of line k.late) line.upstream.own x e s r n f g meant known (eqb-true f g t))) k
    reclaim_taken (Leaving g false) f k = of_flow (Leaving g false) f g
        (record (expects (Estab_line (Leaving g false) rest) n) { grant = Leaving g true }) (λ t. turned
        (Leaving g false) (Leaving g true) (Reclaim s r n f) true k
        (owes (side_of line k.late) line.upstream.own x e s r n f g meant known (eqb-true f g t))) k
    reclaim_taken (Leaving g true) f k = of_flow (Leaving g true) f g
        (record (expects (Estab_line (Leaving g true) rest) n) { grant = Leaving g true })
        (λ t. reclaim_number (Leaving g true) f k) k

  -- a message is taken where it passes the tests
  tested : (grant : Grant) (m : Message) (line' : Line) → (r ≡ line.upstream.own → s ≡ x → IsKept line')
      → IsKept (Estab_line grant (last_of m ∷ rest))
      → IsKept (if takes (Estab_line grant rest) s r n then line' else Estab_line grant rest)
  tested grant m line' right k = elim ((nat_eq s x && nat_eq r line.upstream.own) && nat_le e n) as (λ b. (nat_eq s x
      && nat_eq r line.upstream.own) && nat_le e n ≡ b → IsKept (if b then line' else Estab_line grant rest)) [
        | true ↦ λ t. right (both_right s x r line.upstream.own e n t).0 (both_right s x r line.upstream.own e n t).1
        | false ↦ λ t. dropped_up (up_at line Estab x e grant) (last_of m) rest k
      ] refl

-- a message comes
module _ (line : Line) (x e : ℕ) (rest : List Cell) (room : Bool) (drawn : ℕ) where
  heard_up : (state : State) (grant : Grant) (m : Message)
      → IsKept (chain_up (up_at line state x e grant) (last_of m ∷ rest))
      → IsKept (upstream_hears (chain_up (up_at line state x e grant) rest) m room drawn)
  heard_up state grant (Hello Downstream kind s r n) k = greeted_up line x e rest s r n drawn state grant kind k
  heard_up Estab grant (Redirect s r n f) k = tested line x e rest s r n grant (Redirect s r n f)
      (redirected (expects (chain_up (up_at line Estab x e grant) rest) n) grant room f)
      (λ meant known. redirect_taken line x e rest s r n meant known grant room f k) k
  heard_up Estab grant (Reclaim s r n f) k = tested line x e rest s r n grant (Reclaim s r n f)
      (reclaimed (expects (chain_up (up_at line Estab x e grant) rest) n) grant f)
      (λ meant known. reclaim_taken line x e rest s r n meant known grant f k) k
  heard_up Estab grant (Other s r n) k = tested line x e rest s r n grant (Other s r n)
      (expects (chain_up (up_at line Estab x e grant) rest) n)
      (λ meant known. number_taken line x e rest s r n meant known grant k) k
  heard_up state grant m k = dropped_up (up_at line state x e grant) (last_of m) rest k

pub hears_up : (line : Line) (chain : List Cell) (room : Bool) (drawn : ℕ) → IsKept line
    → IsKept (chain_up line chain) → IsKept (hears_upstream line chain room drawn)
hears_up line (Default true m ∷ rest) room drawn k l = heard_up line line.upstream.stored line.expected
    rest room drawn line.upstream.state line.grant m l
hears_up line chain room drawn k l = k
