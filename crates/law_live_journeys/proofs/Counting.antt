-- packets that are sent, each under a number of its own, are heard at carries of their own at each end of their way

use Rattle.std.proofs.Common.{◌≡◌, ℕ, zero, suc, ◌+◌, ◌-◌, ◌≤◌, ◌<◌, List, [], ◌∷◌, ◌++◌, append_assoc, length, None, Some, ◌⊎◌, inl, inr, refl, sym, ◌∙◌, ap, subst, arith}
use Rattle.world_model.specs.Words.{NodeId, Up, Policy, Mark, FlowId, packet_flow, next_mark, onward, ttl_of, default_home, default_payload, inject_refusal, Topology, World, next, world_after, sent_by}
use Rattle.world_model.specs.World.{opened}
use Rattle.world_model.specs.network_model.declared.link.LinkEnd.{LinkEnd}
use Rattle.world_model.specs.network_model.declared.event.Event.{Event}
use Rattle.world_model.specs.network_model.declared.event.Event.TheVariants.{Inject, Carry}
use Rattle.world_model.specs.Reached.{Sent}
use Rattle.law_packet_worlds.proofs.Hops.{accepted_onward}
use Rattle.law_live_carried_out.proofs.law_run_facts.Steps.{pasts_are_whole, sent_one}
use Rattle.law_live_carried_out.specs.law_true_runs.Runs.{HoldsInRuns, IsWhole}
use Rattle.law_live_carried_out.specs.law_live_hearing.Law.{world_at, Hears}
use Rattle.law_live_carried_out.proofs.law_live_hearing.Going.{after_all}
use Rattle.law_live_carried_out.specs.law_live_bound.Law.{HoldsPacket}
use Rattle.law_live_journeys.specs.Law.{entering}
use Rattle.law_live_journeys.specs.Hops.{ComesTo}
use Rattle.law_live_journeys.specs.Journeys.{ComesAlong}
use Rattle.law_live_journeys.specs.Counts.{one_hop, SendsMany, sent, other, HearsMany, none_heard, heard, unheard, HearsManyAlong, PacketsAreCounted}
use Rattle.law_live_journeys.proofs.Journeys.{FoundAlong, found_along, packets_go_their_way}
use Rattle.law_live_journeys.proofs.Flows.{flows_go_on}
use Rattle.law_live_journeys.proofs.Ways.{less_to_live}

-- *Heard at an end*: a packet of the flow, at a carry behind a front of the events
module _ (topology : Topology) (far : LinkEnd) (flow : FlowId) where
  pub record Item (w : World) (events : List Event) : Type 0 where
    pub mark : Mark
    pub packet : List ℕ
    pub front : List Event
    pub rest : List Event
    pub are : events ≡ front ++ Carry (Up far.node) ∷ rest
    pub hears : Hears topology (world_after topology w front) far.node (default_home far.port).channel mark (default_payload packet)
    pub holds : HoldsPacket (default_payload packet) packet
    pub of_flow : packet_flow packet ≡ Some flow

  -- so many, with ascending numbers
  abbrev pub Items : World → List Event → (least n : ℕ) → Type 0
  Items w events least zero = Unit {0}
  Items w events least (suc n) = (i : Item w events) × (least < i.mark.packet) × Items w events i.mark.packet n

  -- *Now or later*
  record Now (w : World) (event : Event) : Type 0 where
    pub mark : Mark
    pub packet : List ℕ
    pub is : event ≡ Carry (Up far.node)
    pub hears : Hears topology w far.node (default_home far.port).channel mark (default_payload packet)
    pub holds : HoldsPacket (default_payload packet) packet
    pub of_flow : packet_flow packet ≡ Some flow

  first_is : (a b : Event) (xs ys : List Event) → a ∷ xs ≡ b ∷ ys → a ≡ b
  first_is a b xs ys e = cc

  rest_is : (a b : Event) (xs ys : List Event) → a ∷ xs ≡ b ∷ ys → xs ≡ ys
  rest_is a b xs ys e = cc

  module _ (w : World) (event : Event) (events : List Event) where
    record IsLater (i : Item w (event ∷ events)) : Type 0 where
      pub item : Item (next topology w event) events
      pub mark : item.mark ≡ i.mark

    record IsNow (i : Item w (event ∷ events)) : Type 0 where
      pub item : Now w event
      pub mark : item.mark ≡ i.mark

    one : (i : Item w (event ∷ events)) → IsNow i ⊎ IsLater i
    one i = by i.front i.are i.hears
      where
        by : (front : List Event) → event ∷ events ≡ front ++ Carry (Up far.node) ∷ i.rest
            → Hears topology (world_after topology w front) far.node (default_home far.port).channel i.mark (default_payload i.packet) → IsNow i ⊎ IsLater i
        by [] are is_heard = inl (record {
          item = record { mark = i.mark; packet = i.packet; is = first_is event (Carry (Up far.node)) events i.rest are; hears = is_heard; holds = i.holds; of_flow = i.of_flow };
          mark = refl;
        })
        by (x ∷ front) are is_heard = inr (record {
          item = record {
            mark = i.mark;
            packet = i.packet;
            front = front;
            rest = i.rest;
            are = rest_is event x events (front ++ Carry (Up far.node) ∷ i.rest) are;
            hears = subst (λ (e : Event). Hears topology (world_after topology (next topology w e) front) far.node (default_home far.port).channel i.mark (default_payload i.packet))
                (sym (first_is event x events (front ++ Carry (Up far.node) ∷ i.rest) are)) is_heard;
            holds = i.holds;
            of_flow = i.of_flow;
          };
          mark = refl;
        })

    -- behind one that is heard now all others are heard later: a carry ends one frame alone
    apart : (x y : Now w event) → x.mark.packet < y.mark.packet → ⊥
    apart x y less = (let same : x.mark ≡ y.mark = sym x.hears.own ∙ y.hears.own in
        let packets : x.mark.packet ≡ y.mark.packet = ap (λ (m : Mark). m.packet) same in absurd (omega (arith, less, packets)))

    all_later : (n : ℕ) (least : ℕ) (now : Now w event) → now.mark.packet ≤ least → Items w (event ∷ events) least n → Items (next topology w event) events least n
    all_later zero least now low items = tt
    all_later (suc n) least now low (i, less, more) = by (one i) (all_later n i.mark.packet now (omega (arith, low, less)) more)
      where
        by : IsNow i ⊎ IsLater i → Items (next topology w event) events i.mark.packet n → Items (next topology w event) events least (suc n)
        by (inl k) others = absurd (apart now k.item (let same : k.item.mark.packet ≡ i.mark.packet = ap (λ (m : Mark). m.packet) k.mark in omega (arith, low, less, same)))
        by (inr l) others =
            let same : l.item.mark.packet ≡ i.mark.packet = ap (λ (m : Mark). m.packet) l.mark in
            (l.item, omega (arith, less, same), subst (λ (k : ℕ). Items (next topology w event) events k n) (sym same) others)

    -- one is heard now and the others later, or all later
    record OneNow (least n : ℕ) : Type 0 where
      pub now : Now w event
      pub m : ℕ
      pub count : n ≡ suc m
      pub rest : Items (next topology w event) events least m

    lower : (k : ℕ) (low high : ℕ) → low ≤ high → Items (next topology w event) events high k → Items (next topology w event) events low k
    lower zero low high le items = tt
    lower (suc k) low high le (j, above, others) = (j, omega (arith, le, above), others)

    parts : (n : ℕ) (least : ℕ) → Items w (event ∷ events) least n → OneNow least n ⊎ Items (next topology w event) events least n
    parts zero least items = inr tt
    parts (suc n) least (i, less, more) = by (one i) (parts n i.mark.packet more)
      where
        with_later : (l : IsLater i) → OneNow i.mark.packet n ⊎ Items (next topology w event) events i.mark.packet n → OneNow least (suc n) ⊎ Items (next topology w event) events least (suc n)
        with_later l (inr items) =
            let same : l.item.mark.packet ≡ i.mark.packet = ap (λ (m : Mark). m.packet) l.mark in
            inr (l.item, omega (arith, less, same), subst (λ (k : ℕ). Items (next topology w event) events k n) (sym same) items)
        with_later l (inl o) =
            let same : l.item.mark.packet ≡ i.mark.packet = ap (λ (m : Mark). m.packet) l.mark in
            inl (record {
              now = o.now;
              m = suc o.m;
              count = ap suc o.count;
              rest = (l.item, omega (arith, less, same), subst (λ (k : ℕ). Items (next topology w event) events k o.m) (sym same) o.rest);
            })

        by : IsNow i ⊎ IsLater i → OneNow i.mark.packet n ⊎ Items (next topology w event) events i.mark.packet n → OneNow least (suc n) ⊎ Items (next topology w event) events least (suc n)
        by (inl k) others =
            let same : k.item.mark.packet ≡ i.mark.packet = ap (λ (m : Mark). m.packet) k.mark in
            inl (record {
              now = k.item;
              m = n;
              count = refl;
              rest = lower n least i.mark.packet (omega (arith, less)) (all_later n i.mark.packet k.item (omega (arith, same)) more);
            })
        by (inr l) others = with_later l others

  -- *So many are heard*
  pub hears_many : (events : List Event) (w : World) (least n : ℕ) → Items w events least n → HearsMany topology far flow w events n
  hears_many [] w least zero items = none_heard w []
  hears_many [] w least (suc n) (i, less, more) = absurd (nothing i.front i.are)
    where
      nothing : (front : List Event) → [] ≡ front ++ Carry (Up far.node) ∷ i.rest → ⊥
      nothing [] e = absurd (cc e)
      nothing (x ∷ front) e = absurd (cc e)
  hears_many (event ∷ events) w least n items = by (parts w event events n least items) (λ v k later. hears_many events v least k later)
    where
      by : OneNow w event events least n ⊎ Items (next topology w event) events least n → ((v : World) (k : ℕ) → Items v events least k → HearsMany topology far flow v events k)
          → HearsMany topology far flow w (event ∷ events) n
      by (inr later) rest = unheard w event events n (rest (next topology w event) n later)
      by (inl o) rest = subst (λ (k : ℕ). HearsMany topology far flow w (event ∷ events) k) (sym o.count)
          (subst (λ (e : Event). HearsMany topology far flow w (e ∷ events) (suc o.m)) (sym o.now.is)
          (heard w events o.m o.now.mark o.now.packet o.now.hears o.now.holds o.now.of_flow
          (rest (next topology w (Carry (Up far.node))) o.m
          (subst (λ (e : Event). Items (next topology w e) events least o.m) o.now.is o.rest))))

-- *So many*, with ascending numbers
module _ (J : Type 0) (number : J → ℕ) where
  abbrev pub Ascending : (least n : ℕ) → Type 0
  Ascending least zero = Unit {0}
  Ascending least (suc n) = (j : J) × (least < number j) × Ascending (number j) n

-- *What is sent*, each under the next number
module _ (policy : Policy) (topology : Topology) (past events : List Event) where
  sent_is : (before : List Event) → (world_at policy topology before).sent ≡ length (sent_by 0 before)
  sent_is before = (pasts_are_whole policy topology before).sent

  longer : (xs ys : List Sent) → length xs ≤ length (xs ++ ys)
  longer [] ys = omega arith
  longer (x ∷ xs) ys = omega (arith, longer xs ys)

  one_longer : (xs : List Sent) (y : Sent) → length (xs ++ y ∷ []) ≡ length xs + 1
  one_longer [] y = refl
  one_longer (x ∷ xs) y = omega (arith, one_longer xs y)

  rises : (before : List Event) (event : Event) → (world_at policy topology before).sent ≤ (world_at policy topology (before ++ event ∷ [])).sent
  rises before event =
      let split : length (sent_by 0 (before ++ event ∷ [])) ≡ length (sent_by 0 before ++ sent_by (0 + length before) (event ∷ [])) = ap length (sent_one 0 before event) in
      omega (arith, sent_is before, sent_is (before ++ event ∷ []), split, longer (sent_by 0 before) (sent_by (0 + length before) (event ∷ [])))

  adds_one : (before : List Event) (node : NodeId) (packet : List ℕ) → (world_at policy topology (before ++ Inject node packet ∷ [])).sent ≡ (world_at policy topology before).sent + 1
  adds_one before node packet =
      let s : Sent = record { node = node; packet = packet; time = 0 + length before } in
      let split : length (sent_by 0 (before ++ Inject node packet ∷ [])) ≡ length (sent_by 0 before ++ s ∷ []) = ap length (sent_one 0 before (Inject node packet)) in
      omega (arith, sent_is before, sent_is (before ++ Inject node packet ∷ []), split, one_longer (sent_by 0 before) s)

  module _ (J : Type 0) (number : J → ℕ) (node : NodeId) (flow : FlowId)
      (goes : (front rest : List Event) (packet : List ℕ) → events ≡ front ++ Inject node packet ∷ rest → inject_refusal packet ≡ None → packet_flow packet ≡ Some flow → J)
      (numbered : (front rest : List Event) (packet : List ℕ) (e : events ≡ front ++ Inject node packet ∷ rest) (accepted : inject_refusal packet ≡ None) (of_flow : packet_flow packet ≡ Some flow)
      → number (goes front rest packet e accepted of_flow) ≡ (world_at policy topology (past ++ front)).sent + 1) where
    pub each_sent : (n : ℕ) (later front : List Event) (least : ℕ) → events ≡ front ++ later → least ≤ (world_at policy topology (past ++ front)).sent → SendsMany node flow later n
        → Ascending J number least n
    each_sent zero later front least e low sends = tt
    each_sent (suc n) _ front least e low (sent packet later m accepted of_flow sends) =
        let j : J = goes front later packet e accepted of_flow in
        let own : number j ≡ (world_at policy topology (past ++ front)).sent + 1 = numbered front later packet e accepted of_flow in
        let joined : (world_at policy topology (past ++ (front ++ Inject node packet ∷ []))).sent ≡ (world_at policy topology ((past ++ front) ++ Inject node packet ∷ [])).sent =
        ap (λ (es : List Event). (world_at policy topology es).sent) (sym (append_assoc past front (Inject node packet ∷ []))) in
        let more : (world_at policy topology ((past ++ front) ++ Inject node packet ∷ [])).sent ≡ (world_at policy topology (past ++ front)).sent + 1 = adds_one (past ++ front) node packet in (
          j,
          omega (arith, low, own),
          each_sent n later (front ++ Inject node packet ∷ []) (number j) (e ∙ sym (append_assoc front (Inject node packet ∷ []) later))
              (omega (arith, own, joined, more)) sends,
        )
    each_sent (suc n) _ front least e low (other event later m sends) =
        let joined : (world_at policy topology (past ++ (front ++ event ∷ []))).sent ≡ (world_at policy topology ((past ++ front) ++ event ∷ [])).sent =
        ap (λ (es : List Event). (world_at policy topology es).sent) (sym (append_assoc past front (event ∷ []))) in
        each_sent (suc n) later (front ++ event ∷ []) least (e ∙ sym (append_assoc front (event ∷ []) later))
        (omega (arith, low, joined, rises (past ++ front) event)) sends

-- *Journeys* of packets of a flow, with ascending numbers
module _ (policy : Policy) (topology : Topology) (past events : List Event) where
  pub record Journey (flow : FlowId) (ends : List LinkEnd) : Type 0 where
    pub mark : Mark
    pub packet : List ℕ
    pub accepted : inject_refusal packet ≡ None
    pub of_flow : packet_flow packet ≡ Some flow
    pub lives : length ends < ttl_of packet
    pub comes : FoundAlong policy topology past events mark packet ends

  abbrev pub Journeys : (flow : FlowId) → List LinkEnd → (least n : ℕ) → Type 0
  Journeys flow ends = Ascending (Journey flow ends) (λ j. j.mark.packet)

  module _ (flow : FlowId) (far : LinkEnd) (ends : List LinkEnd) where
    module _ (j : Journey flow (far ∷ ends)) where
      flow_there : packet_flow (onward j.packet) ≡ Some (one_hop flow)
      flow_there = flows_go_on j.packet flow j.accepted (omega (arith, j.lives)) j.of_flow

      first_end : Item topology far (one_hop flow) (world_at policy topology past) events
      first_end = (let c : ComesTo policy topology past events far (next_mark j.mark) (onward j.packet) = j.comes.0 in
          record {
            mark = next_mark j.mark;
            packet = onward j.packet;
            front = c.front;
            rest = c.rest;
            are = c.are;
            hears = subst (λ (v : World). Hears topology v far.node (default_home far.port).channel (next_mark j.mark) (default_payload (onward j.packet)))
                (after_all topology (opened policy topology) past c.front) c.heard;
            holds = c.holds;
            of_flow = flow_there;
          })

      others : Journey (one_hop flow) ends
      others = record {
        mark = next_mark j.mark;
        packet = onward j.packet;
        accepted = accepted_onward j.packet j.accepted;
        of_flow = flow_there;
        lives = (let less : ttl_of (onward j.packet) ≡ ttl_of j.packet - 1 = less_to_live j.packet j.accepted in omega (arith, j.lives, less));
        comes = j.comes.1;
      }

    first_ends : (n : ℕ) (least : ℕ) → Journeys flow (far ∷ ends) least n → Items topology far (one_hop flow) (world_at policy topology past) events least n
    unfolding first_end
    first_ends zero least js = tt
    first_ends (suc n) least (j, less, more) = (first_end j, less, first_ends n j.mark.packet more)

    other_ends : (n : ℕ) (least : ℕ) → Journeys flow (far ∷ ends) least n → Journeys (one_hop flow) ends least n
    unfolding others
    other_ends zero least js = tt
    other_ends (suc n) least (j, less, more) = (others j, less, other_ends n j.mark.packet more)

  along : (ends : List LinkEnd) (flow : FlowId) (n : ℕ) (least : ℕ) → Journeys flow ends least n → HearsManyAlong topology (world_at policy topology past) events flow n ends
  along [] flow n least js = tt
  along (far ∷ ends) flow n least js = (
    hears_many topology far (one_hop flow) events (world_at policy topology past) least n (first_ends flow far ends n least js),
    along ends (one_hop flow) n least (other_ends flow far ends n least js),
  )

pub packets_are_counted : HoldsInRuns IsWhole → PacketsAreCounted
packets_are_counted whole policy topology past events node flow ends n stretch keeps sends enters =
    along policy topology past events ends flow n 0
    (each_sent policy topology past events (Journey policy topology past events flow ends) (λ j. j.mark.packet) node flow
    (λ front rest packet e accepted of_flow. record {
      mark = entering (world_at policy topology (past ++ front));
      packet = packet;
      accepted = accepted;
      of_flow = of_flow;
      lives = (enters front rest packet e accepted of_flow).lives;
      comes = found_along policy topology past events ends (front ++ Inject node packet ∷ []) rest (e ∙ sym (append_assoc front (Inject node packet ∷ []) rest))
          (entering (world_at policy topology (past ++ front))) packet
          (subst (λ (es : List Event). ComesAlong policy topology es rest (entering (world_at policy topology (past ++ front))) packet ends)
          (append_assoc past front (Inject node packet ∷ []))
          (packets_go_their_way whole policy topology past events front rest node packet ends stretch keeps (enters front rest packet e accepted of_flow)).comes);
    })
    (λ front rest packet e accepted of_flow. refl)
    n events [] 0 refl (omega arith) sends)
