use Rattle.std.proofs.Common.{◌≡◌, ℕ, ◌+◌, ◌<◌, ◌≤◌, min, fold, length, take, get_or, Some, ap, sym, ◌∙◌, arith}
use Rattle.std.specs.Prelude.{slice_get}
use Rattle.std.proofs.lemmas.List.{take_min}
use Rattle.std.proofs.lemmas.List.Sums.{fold_more}
use Rattle.std.proofs.lemmas.Option.{slice_get-get_or}
use Rattle.net_types.specs.Number.{GivenOut}
use Rattle.gsmp_wire.specs.declared.request.Request.TheVariants.{AllPorts}
use Rattle.world_model.specs.port_model.Desk.{Desk, Standing}
use Rattle.world_model.specs.Controller.{Acted}
use Rattle.world_model.specs.Asking.{sends_request}
use Rattle.controller_gsmp.specs.Client.{Client, acted}
use Rattle.controller_gsmp.proofs.Sent.{rest_on, still_one}
use Rattle.controller_gsmp.proofs.client.Client.send_again.Goals as goal

-- any request
any : Standing
any = record { number = 0; request = AllPorts }

pub loop-place-preserved : goal.loop-place-preserved
loop-place-preserved c =
    let old = c.args.self.now in
    let same : c.loop-place.self.desk ≡ old.desk = ap (λ (x : Client). x.desk) c.loop-place.invariant.rest in
    let within : c.loop-place.place < length old.desk.standing = omega arith in
    let found : slice_get c.loop-place.self.desk.standing c.loop-place.place ≡ Some (get_or old.desk.standing c.loop-place.place any) =
    ap (λ (desk : Desk). slice_get desk.standing c.loop-place.place) same ∙ slice_get-get_or old.desk.standing c.loop-place.place any within in
    let drawn : c.send_request.new.numbers.controls ≡ c.loop-place.numbers.controls + 1 = ap (λ (n : GivenOut). n.controls) c.send_request.ensures.drawn in
    record {
      end = c.loop-place.invariant.end;
      standing = c.loop-place.invariant.standing;
      rest = rest_on old c.loop-place.self c.send_request.new.self c.loop-place.invariant.rest c.send_request.ensures.rest;
      numbers = omega (arith, drawn, c.loop-place.invariant.numbers);
      acted = λ r node.
          c.in_ok-send_request.ensures.acted r (get_or old.desk.standing c.loop-place.place any) (still_one r old c.loop-place.self node c.loop-place.invariant.rest) found
          ∙ ap (λ (a : Acted). sends_request a (get_or old.desk.standing c.loop-place.place any)) (c.loop-place.invariant.acted r node)
          ∙ sym (fold_more sends_request (acted r old c.args.notes.now c.args.numbers.now) old.desk.standing c.loop-place.place any within);
    }

met : (place end standing n : ℕ) → end ≡ min standing 32 → end ≤ place → place ≤ end → standing ≡ n → place ≡ min 32 n
met place end standing n is past below same = omega arith

pub returns-clause-acted : goal.returns-clause-acted
returns-clause-acted c = λ r node.
    let old = c.args.self.now in
    let end : c.loop-place.place ≡ min 32 (length old.desk.standing) = met (c.loop-place.place) c.min-place-end.result c.standing.result _ c.min-place-end.ensures c.loop-place-test.false c.loop-place.auto.place-end (c.standing.ensures.len ∙ ap (λ (x : Client). length x.desk.standing) c.self.view_is) in
    let all : take c.loop-place.place old.desk.standing ≡ take 32 old.desk.standing = ap (λ n. take n old.desk.standing) end ∙ take_min 32 old.desk.standing in
    c.loop-place.invariant.acted r node ∙ ap (λ standing. fold sends_request (acted r old c.args.notes.now c.args.numbers.now) standing) all
