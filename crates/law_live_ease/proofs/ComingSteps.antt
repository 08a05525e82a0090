-- a port is put in its place, what stands changes, and desk and ports are tied still

use Rattle.std.proofs.Common.{◌≡◌, ◌≢◌, ◌⊎◌, inl, inr, ℕ, Bool, true, false, true≢false, not, zero, suc, List, [], ◌∷◌, ◌++◌, filter, Some, refl, sym, ◌∙◌, ap, subst, arith, if◌then◌else◌}
use Rattle.std.specs.Prelude.{Contains, ◌==◌}
use Rattle.std.proofs.lemmas.List.Elements.{Contains-append_left, Contains-push}
use Rattle.std.proofs.lemmas.Bool.Decides.{nat_tests}
use Rattle.world_model.specs.Words.{Request, at, put, withdraws, Desk, Standing, without_request, Linked, port_key}
use Rattle.world_model.specs.port_model.Desk.{asked}
use Rattle.law_live_journeys.specs.law_port_facts.ordered_lists.Ordered.{Every}
use Rattle.law_live_journeys.proofs.law_port_facts.ordered_lists.Every.{every_map, every_map2, every_join}
use Rattle.law_live_journeys.proofs.law_port_facts.Keyed.{by_eq, at_put_same, at_put_other}
use Rattle.law_live_journeys.proofs.law_input_steps.Lists.{filter_all}
use Rattle.law_live_ease.specs.Law.{IsAsked}
use Rattle.law_live_ease.proofs.ComingOwed.{Owes, IsOf, owed, moves, Tie}

pub one_linked : (x y : Linked) → Some x ≡ Some y → x ≡ y
one_linked x y e = cc e

-- *A port is put*, with the same number: what was owed to it is owed still, or is gone; what is owed to it then stands. What stood stays,
-- but for what is gone, which no other port is owed
module _ (ports after : List Linked) (desk later : Desk) (linked new : Linked) (there : at port_key linked.setup.port.0 ports ≡ Some linked) (own : new.setup.port.0 ≡ linked.setup.port.0)
    (is_put : after ≡ put port_key new ports) where
  there_now : at port_key new.setup.port.0 after ≡ Some new
  there_now = ap (at port_key new.setup.port.0) is_put ∙ at_put_same port_key new ports linked (subst (λ k. at port_key k ports ≡ Some linked) (sym own) there)

  other_now : (k : ℕ) → k ≢ linked.setup.port.0 → at port_key k after ≡ at port_key k ports
  other_now k apart = ap (at port_key k) is_put ∙ at_put_other port_key new k ports (λ e. apart (sym e ∙ own))

  module _ (Gone : Request → Type 0) (goes_on : (request : Request) → Owes linked request → Owes new request ⊎ Gone request) where
    of_then : (request : Request) → IsOf ports request → (Gone request → ⊥) → IsOf after request
    of_then _ (moves input from to away) stays = moves input from to away
    of_then _ (owed l request found is) stays = by_eq l.setup.port.0 linked.setup.port.0 (λ same t. here same) (λ apart t. owed l request (other_now l.setup.port.0 apart ∙ found) is)
      where
        here : l.setup.port.0 ≡ linked.setup.port.0 → IsOf after request
        here same = elim (goes_on request (subst (λ (x : Linked). Owes x request) (one_linked l linked (sym found ∙ subst (λ k. at port_key k ports ≡ Some linked) (sym same) there)) is)) [
          | inl still ↦ owed new request there_now still
          | inr gone ↦ absurd (stays gone)
        ]

    pub tied_then : Tie ports desk
        → Every (λ (s : Standing). (IsOf ports s.request × (Gone s.request → ⊥)) ⊎ Owes new s.request) later.standing
        → ((request : Request) → Owes new request → IsAsked later request)
        → ((l : Linked) (request : Request) → l.setup.port.0 ≢ linked.setup.port.0 → Owes l request → IsAsked desk request → IsAsked later request)
        → Tie after later
    tied_then tie stand here others = record {
      standing = every_map (λ (s : Standing). (IsOf ports s.request × (Gone s.request → ⊥)) ⊎ Owes new s.request) (λ (s : Standing). IsOf after s.request) later.standing each stand;
      owed = λ l request found is. by_eq l.setup.port.0 linked.setup.port.0
          (λ same t. here request (subst (λ (x : Linked). Owes x request) (one_linked l new (sym found ∙ subst (λ k. at port_key k after ≡ Some new) (own ∙ sym same) there_now)) is))
          (λ apart t. others l request apart is (tie.owed l request (sym (other_now l.setup.port.0 apart) ∙ found) is));
    }
      where
        each : (s : Standing) → (IsOf ports s.request × (Gone s.request → ⊥)) ⊎ Owes new s.request → IsOf after s.request
        each s (inl was) = of_then s.request was.0 was.1
        each s (inr now) = owed new s.request there_now now

-- *Nothing is asked*: what is owed to the port is the same
abbrev pub OwedAlike : Linked → Linked → Type 0
OwedAlike before after = ((request : Request) → Owes before request → Owes after request) × ((request : Request) → Owes after request → Owes before request)

pub tied_alike : (ports : List Linked) (desk : Desk) (linked new : Linked) → at port_key linked.setup.port.0 ports ≡ Some linked → new.setup.port.0 ≡ linked.setup.port.0
    → OwedAlike linked new → Tie ports desk → Tie (put port_key new ports) desk
tied_alike ports desk linked new there own alike tie = tied_then ports (put port_key new ports) desk desk linked new there own refl (λ request. ⊥) (λ request is. inl (alike.0 request is)) tie
    (every_map (λ (s : Standing). IsOf ports s.request) (λ (s : Standing). (IsOf ports s.request × (⊥ → ⊥)) ⊎ Owes new s.request) desk.standing (λ s is. inl (is, λ none. none)) tie.standing)
    (λ request is. tie.owed linked request there (alike.1 request is)) (λ l request apart is stands. stands)

-- *A request is asked* for the port, where nothing that stands is on its input
abbrev pub IsOffInput : Request → Request → Type 0
IsOffInput request other = withdraws request other ≡ false

module _ (desk : Desk) (request : Request) (off : Every (λ (s : Standing). IsOffInput request s.request) desk.standing) where
  abbrev now : Standing
  now = record { number = desk.next; request = request }

  all_stay : (asked desk request).standing ≡ desk.standing ++ now ∷ []
  all_stay = ap (λ (standing : List Standing). standing ++ now ∷ []) (filter_all (λ (s : Standing). not (withdraws request s.request)) desk.standing
      (every_map (λ (s : Standing). IsOffInput request s.request) (λ (s : Standing). not (withdraws request s.request) ≡ true) desk.standing (λ s e. ap not e) off))

  asked_still : (other : Request) → IsAsked desk other → IsAsked (asked desk request) other
  asked_still other is = record {
    standing = is.standing;
    stands = subst (λ (standing : List Standing). Contains standing is.standing) (sym all_stay) (Contains-append_left desk.standing (now ∷ []) is.standing is.stands);
    of_request = is.of_request;
  }

  asked_now : IsAsked (asked desk request) request
  asked_now = record { standing = now; stands = subst (λ (standing : List Standing). Contains standing now) (sym all_stay) (Contains-push desk.standing now); of_request = refl }

  pub tied_asked : (ports : List Linked) (linked new : Linked) → at port_key linked.setup.port.0 ports ≡ Some linked → new.setup.port.0 ≡ linked.setup.port.0
      → Owes new request → ((other : Request) → Owes linked other → Owes new other) → ((other : Request) → Owes new other → Owes linked other ⊎ (other ≡ request))
      → Tie ports desk → Tie (put port_key new ports) (asked desk request)
  tied_asked ports linked new there own is forth back tie = tied_then ports (put port_key new ports) desk (asked desk request) linked new there own refl (λ other. ⊥)
      (λ other was. inl (forth other was)) tie
      (subst (Every Stays) (sym all_stay) (every_join Stays desk.standing (now ∷ []) (every_map (λ (s : Standing). IsOf ports s.request) Stays desk.standing (λ s was. inl (was, λ none. none)) tie.standing)
      (inr is, tt)))
      (λ other owes. elim (back other owes) [
        | inl was ↦ asked_still other (tie.owed linked other there was)
        | inr same ↦ subst (IsAsked (asked desk request)) (sym same) asked_now
      ])
      (λ l other apart owes stands. asked_still other stands)
    where
      Stays : Standing → Type 0
      Stays s = (IsOf ports s.request × (⊥ → ⊥)) ⊎ Owes new s.request

-- *A request is answered*, which stands alone: it stands no longer, and no port is owed it
differs : (m n : ℕ) → m ≢ n → (m == n) ≡ false
differs m n e = grind (arith, nat_tests)

agrees : (m n : ℕ) → m ≡ n → (m == n) ≡ true
agrees m n e = grind (arith, nat_tests)

contains_filtered : {A : Type 0} (test : A → Bool) (xs : List A) (x : A) → test x ≡ true → Contains xs x → Contains (filter test xs) x
contains_filtered test [] x passes has = absurd (omega (arith, has.1))
contains_filtered {A} test (y ∷ xs) x passes (zero, less, is) = subst (λ (b : Bool). Contains (if b then y ∷ filter test xs else filter test xs) x) (sym (ap test is ∙ passes)) (zero, omega arith, is)
contains_filtered {A} test (y ∷ xs) x passes (suc k, less, is) = by (test y) (contains_filtered test xs x passes (k, omega (arith, less), is))
  where
    by : (b : Bool) → Contains (filter test xs) x → Contains (if b then y ∷ filter test xs else filter test xs) x
    by true has = (suc has.0, omega (arith, has.1), has.2)
    by false has = has

filtered_both : {A : Type 0} (test : A → Bool) (P Q : A → Type 0) (xs : List A) → Every P xs → ((x : A) → P x → test x ≡ true → Q x) → Every Q (filter test xs)
filtered_both test P Q [] each f = tt
filtered_both {A} test P Q (x ∷ xs) each f = by (test x) refl (filtered_both test P Q xs each.1 f)
  where
    by : (b : Bool) → test x ≡ b → Every Q (filter test xs) → Every Q (if b then x ∷ filter test xs else filter test xs)
    by true passes rest = (f x each.0 passes, rest)
    by false fails rest = rest

module _ (desk : Desk) (s : Standing) (alone : Every (λ (x : Standing). x.request ≡ s.request → x ≡ s) desk.standing) where
  abbrev is_other : Standing → Bool
  is_other x = not (x.number == s.number)

  still_asked : (request : Request) → (request ≡ s.request → ⊥) → ((x : Standing) → Contains desk.standing x → x.number ≡ s.number → x ≡ s) → IsAsked desk request → IsAsked (without_request desk s) request
  still_asked request apart numbers is = record {
    standing = is.standing;
    stands = contains_filtered is_other desk.standing is.standing
        (ap not (differs is.standing.number s.number (λ same. apart (sym is.of_request ∙ ap (λ (x : Standing). x.request) (numbers is.standing is.stands same))))) is.stands;
    of_request = is.of_request;
  }

  not_answered : (x : Standing) → (x.request ≡ s.request → x ≡ s) → is_other x ≡ true → x.request ≡ s.request → ⊥
  not_answered x alone_x passes same = true≢false (sym passes ∙ ap not (agrees x.number s.number (ap (λ (y : Standing). y.number) (alone_x same))))

  pub tied_answered : (ports : List Linked) (linked new : Linked) → at port_key linked.setup.port.0 ports ≡ Some linked → new.setup.port.0 ≡ linked.setup.port.0
      → ((x : Standing) → Contains desk.standing x → x.number ≡ s.number → x ≡ s)
      → ((request : Request) → Owes linked request → Owes new request ⊎ (request ≡ s.request))
      → ((request : Request) → Owes new request → Owes linked request × (request ≡ s.request → ⊥))
      → ((l : Linked) (request : Request) → l.setup.port.0 ≢ linked.setup.port.0 → Owes l request → request ≡ s.request → ⊥)
      → Tie ports desk → Tie (put port_key new ports) (without_request desk s)
  tied_answered ports linked new there own numbers forth back others tie =
      tied_then ports (put port_key new ports) desk (without_request desk s) linked new there own refl (λ request. request ≡ s.request) forth tie
      (filtered_both is_other (λ (x : Standing). IsOf ports x.request × (x.request ≡ s.request → x ≡ s)) (λ (x : Standing). (IsOf ports x.request × (x.request ≡ s.request → ⊥)) ⊎ Owes new x.request) desk.standing
      (every_map2 (λ (x : Standing). IsOf ports x.request) (λ (x : Standing). x.request ≡ s.request → x ≡ s) (λ (x : Standing). IsOf ports x.request × (x.request ≡ s.request → x ≡ s)) desk.standing
      (λ x p q. (p, q)) tie.standing alone)
      (λ x was passes. inl (was.0, not_answered x was.1 passes)))
      (λ request is. still_asked request (back request is).1 numbers (tie.owed linked request there (back request is).0))
      (λ l request apart is stands. still_asked request (others l request apart is) numbers stands)

  -- a join is answered: no port is owed it
  pub tied_joined : (ports : List Linked) → ((x : Standing) → Contains desk.standing x → x.number ≡ s.number → x ≡ s)
      → ((l : Linked) (request : Request) → Owes l request → request ≡ s.request → ⊥) → Tie ports desk → Tie ports (without_request desk s)
  tied_joined ports numbers none tie = record {
    standing = filtered_both is_other (λ (x : Standing). IsOf ports x.request) (λ (x : Standing). IsOf ports x.request) desk.standing tie.standing (λ x is passes. is);
    owed = λ l request there is. still_asked request (none l request is) numbers (tie.owed l request there is);
  }
