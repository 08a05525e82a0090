-- two ends that agree in a network, at rest and left alike

use Rattle.std.proofs.Common.{◌≡◌, List, [], refl, sym, subst}
use Rattle.live_model.specs.world_model.Words.{Setup, Linked, World}
use Rattle.live_model.specs.world_model.ifmp_wire.declared.message.Message.{Message}
use Rattle.live_model.specs.world_model.network_model.declared.link.LinkEnd.{LinkEnd}
use Rattle.law_live_links.specs.Law.{EndOfLink, AreAgreed, AreAtRest, MayTick, IsPeaceful}
use Rattle.law_live_links.proofs.Resting.{ends_agree_at_rest, ends_are_at_peace, swapped}
use Rattle.law_live_unseen.proofs.Alike.{like_ports_agree}
use Rattle.law_live_unseen.specs.Law.{AreAlike}
use Rattle.law_live_nodes.specs.Law.{IsPortAtPeace}
use Rattle.law_live_worlds.specs.Law.{end_of, AgreeIn, AgreementGoesBothWays, EndsAgreeInRest, LikeWorldsAgree}

pub agreement_goes_both_ways : AgreementGoesBothWays
agreement_goes_both_ways w one far said far_said a = record {
  linked = a.far_linked;
  far_linked = a.linked;
  shows = a.far_shows;
  far_shows = a.shows;
  agreed = swapped a.agreed;
}

-- *At rest*
pub at_rest : {w : World} {one far : LinkEnd} (agree : AgreeIn w one far [] []) → AreAtRest (end_of agree.linked []) (end_of agree.far_linked [])
at_rest agree = record { agreed = agree.agreed; one_is_heard = refl; other_is_heard = refl }

pub ends_agree_in_rest : EndsAgreeInRest
ends_agree_in_rest w one far agree =
    let rest = ends_agree_at_rest (end_of agree.linked []) (end_of agree.far_linked []) (at_rest agree) in
    record { labels = rest.0; numbers = rest.1; peace = peaceful }
  where
    peaceful : MayTick (end_of agree.linked []) → IsPortAtPeace agree.linked
    peaceful may =
        let is : IsPeaceful 0 (end_of agree.linked []) = ends_are_at_peace 0 (end_of agree.linked []) (end_of agree.far_linked []) (at_rest agree) may in
        record { session = is.session; peace = is.peace }

-- *A port in the place of another*, that is alike and stays the same otherwise
pub end_alike : (linked after : Linked) (said : List Message) (other : EndOfLink) → after.setup ≡ linked.setup → AreAlike linked.port after.port
    → AreAgreed (end_of linked said) other → AreAgreed (end_of after said) other
end_alike linked after said other setup alike agreed =
    subst (λ (s : Setup). AreAgreed (let e : EndOfLink = record { setup = s; port = after.port; said = said } in e) other) (sym setup)
    (like_ports_agree (end_of linked said) other after.port agreed alike)

pub both_alike : (linked after far_linked far_after : Linked) (said far_said : List Message) → after.setup ≡ linked.setup → AreAlike linked.port after.port
    → far_after.setup ≡ far_linked.setup → AreAlike far_linked.port far_after.port
    → AreAgreed (end_of linked said) (end_of far_linked far_said) → AreAgreed (end_of after said) (end_of far_after far_said)
both_alike linked after far_linked far_after said far_said setup alike far_setup far_alike agreed =
    swapped (end_alike far_linked far_after far_said (end_of after said) far_setup far_alike
    (swapped (end_alike linked after said (end_of far_linked far_said) setup alike agreed)))

pub like_worlds_agree : LikeWorldsAgree
like_worlds_agree w v one far said far_said agree left far_left = record {
  linked = left.linked;
  far_linked = far_left.linked;
  shows = left.shows;
  far_shows = far_left.shows;
  agreed = both_alike agree.linked left.linked agree.far_linked far_left.linked said far_said left.setup left.alike far_left.setup far_left.alike agree.agreed;
}
