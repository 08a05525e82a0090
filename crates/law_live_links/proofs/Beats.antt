-- two ends that take turns

use Rattle.std.proofs.Common.{◌≡◌, ℕ, suc, Bool, true, false, List, [], ◌∷◌, ◌++◌, append-nil, length, refl, sym, ◌∙◌, ap, subst, if◌then◌else◌}
use Rattle.std.specs.Prelude.{drop, filter, fold, not}
use Rattle.std.proofs.Math.Seq.{drop-nil}
use Rattle.live_model.specs.world_model.ifmp_wire.declared.message.Message.{Message}
use Rattle.law_live_nodes.specs.Law.{told_by}
use Rattle.law_live_links.specs.Law.{EndOfLink, AreAgreed, ticked, HearsOn, Link, Turn, hears_first, takes_turn, RestsBehind, LinksStayAtRest}
use Rattle.law_live_links.proofs.Resting.{swapped}
use Rattle.law_live_links.proofs.Ticking.{ticks_keep_agreement}
use Rattle.law_live_links.proofs.Hearing.{hearing_keeps_agreement}

-- one more from the front
drop_one_more : {A : Type 0} (n : ℕ) (xs : List A) → drop n (drop 1 xs) ≡ drop (suc n) xs
drop_one_more n [] = drop-nil n
drop_one_more n (x ∷ xs) = refl

-- *One hears the first*, if there is one; it says nothing itself
pub record Heard (turn : Turn) (one other : EndOfLink) : Type 0 where
  pub agreed : AreAgreed (hears_first turn other.port.adjacency.own.address one other.said) (record other { said = drop 1 other.said })
  pub same : (hears_first turn other.port.adjacency.own.address one other.said).said ≡ one.said

first_heard : (turn : Turn) (one other : EndOfLink) → AreAgreed one other → Heard turn one other
first_heard turn one other agreed = by other.said refl
  where
    by : (messages : List Message) → other.said ≡ messages → Heard turn one other
    by [] none = record {
      agreed = subst (λ (m : List Message). AreAgreed (hears_first turn other.port.adjacency.own.address one m) (record other { said = drop 1 m })) (sym none)
          (subst (λ (y : EndOfLink). AreAgreed one y) (λ i. record other { said = none i }) agreed);
      same = ap (λ (m : List Message). (hears_first turn other.port.adjacency.own.address one m).said) none;
    }
    by (message ∷ rest) some =
        let on : HearsOn turn.desk turn.instances one other message rest = hearing_keeps_agreement turn.desk turn.instances one other message rest agreed some in
        record {
          agreed = subst (λ (m : List Message). AreAgreed (hears_first turn other.port.adjacency.own.address one m) (record other { said = drop 1 m })) (sym some) on.agreed;
          same = ap (λ (m : List Message). (hears_first turn other.port.adjacency.own.address one m).said) some
              ∙ (ap (λ actions. one.said ++ told_by actions) on.quiet ∙ append-nil one.said);
        }

abbrev ones : Turn → Bool
ones turn = turn.is_ones

abbrev others : Turn → Bool
others turn = not turn.is_ones

-- *One turn*
pub record Taken (link : Link) (turn : Turn) : Type 0 where
  pub agreed : AreAgreed (takes_turn link turn).one (takes_turn link turn).other
  pub one_said : (takes_turn link turn).one.said ≡ (if turn.is_ones then link.one.said else drop 1 link.one.said)
  pub other_said : (takes_turn link turn).other.said ≡ (if turn.is_ones then drop 1 link.other.said else link.other.said)

one_turn : (link : Link) (turn : Turn) → AreAgreed link.one link.other → Taken link turn
one_turn link turn agreed = by turn.is_ones refl
  where
    taken_by : Bool → Link
    taken_by b =
        if b
        then record { one = hears_first turn link.other.port.adjacency.own.address link.one link.other.said; other = record link.other { said = drop 1 link.other.said } }
        else record { one = record link.one { said = drop 1 link.one.said }; other = hears_first turn link.one.port.adjacency.own.address link.other link.one.said }

    by : (b : Bool) → turn.is_ones ≡ b → Taken link turn
    by true is =
        let heard : Heard turn link.one link.other = first_heard turn link.one link.other agreed in
        record {
          agreed = subst (λ (b : Bool). AreAgreed (taken_by b).one (taken_by b).other) (sym is) heard.agreed;
          one_said = subst (λ (b : Bool). (taken_by b).one.said ≡ (if b then link.one.said else drop 1 link.one.said)) (sym is) heard.same;
          other_said = subst (λ (b : Bool). (taken_by b).other.said ≡ (if b then drop 1 link.other.said else link.other.said)) (sym is) refl;
        }
    by false is =
        let heard : Heard turn link.other link.one = first_heard turn link.other link.one (swapped agreed) in
        record {
          agreed = subst (λ (b : Bool). AreAgreed (taken_by b).one (taken_by b).other) (sym is) (swapped heard.agreed);
          one_said = subst (λ (b : Bool). (taken_by b).one.said ≡ (if b then link.one.said else drop 1 link.one.said)) (sym is) refl;
          other_said = subst (λ (b : Bool). (taken_by b).other.said ≡ (if b then drop 1 link.other.said else link.other.said)) (sym is) heard.same;
        }

-- *All of them*
turns_taken : (turns : List Turn) (link : Link) → AreAgreed link.one link.other → RestsBehind link turns (fold takes_turn link turns)
turns_taken [] link agreed = record {
  one_said = refl;
  other_said = refl;
  agreed = agreed;
  at_rest = λ one_none other_none. record { agreed = agreed; one_is_heard = one_none; other_is_heard = other_none };
}
turns_taken (turn ∷ turns) link agreed =
    let first : Taken link turn = one_turn link turn agreed in
    let later : RestsBehind (takes_turn link turn) turns (fold takes_turn (takes_turn link turn) turns) = turns_taken turns (takes_turn link turn) first.agreed in
    record {
      one_said = later.one_said ∙ (ap (drop (length (filter others turns))) first.one_said ∙ theirs turn.is_ones);
      other_said = later.other_said ∙ (ap (drop (length (filter ones turns))) first.other_said ∙ own turn.is_ones);
      agreed = later.agreed;
      at_rest = later.at_rest;
    }
  where
    theirs : (b : Bool) → drop (length (filter others turns)) (if b then link.one.said else drop 1 link.one.said)
        ≡ drop (length (if not b then turn ∷ filter others turns else filter others turns)) link.one.said
    theirs true = refl
    theirs false = drop_one_more (length (filter others turns)) link.one.said

    own : (b : Bool) → drop (length (filter ones turns)) (if b then drop 1 link.other.said else link.other.said)
        ≡ drop (length (if b then turn ∷ filter ones turns else filter ones turns)) link.other.said
    own true = drop_one_more (length (filter ones turns)) link.other.said
    own false = refl

pub links_stay_at_rest : LinksStayAtRest
links_stay_at_rest desk far_desk instances far_instances one other turns rest may far_may =
    turns_taken turns (record { one = ticked desk instances one; other = ticked far_desk far_instances other })
    (ticks_keep_agreement desk far_desk instances far_instances one other rest may far_may)
