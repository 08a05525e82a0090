use Rattle.std.proofs.Common.{◌≡◌, ◌∙◌, sym, true, false, is_some}
use Rattle.std.specs.List.{list_any}
use Rattle.port_model.specs.Desk.{Standing}
use Rattle.port_model.specs.Requests.{is_delete_all}
use Rattle.branch_desk.proofs.Apart.{found_any_mapped, led_by_delete, led_by_none, led_by_one}
use Rattle.branch_desk.proofs.requests.Requests.is_led_home.Goals as goal

pub returns-then-is_some : goal.returns-then-is_some
returns-then-is_some c =
    let there : is_some c.all_on.result ≡ true = sym c.is_some.ensures ∙ c.if-is_some.true in
    let deleted : list_any (λ (s : Standing). is_delete_all c.args.input.port s.request) c.args.self.now ≡ true =
    sym (found_any_mapped (λ (s : Standing). s.number) (λ (s : Standing). is_delete_all c.args.input.port s.request) c.args.self.now) ∙ (rw (← c.all_on.ensures) there) in
    sym (led_by_delete c.args.input c.args.home c.args.self.now deleted)

pub returns-in-Some : goal.returns-in-Some
returns-in-Some c =
    let absent : is_some c.all_on.result ≡ false = sym c.is_some.ensures ∙ c.if-is_some.false in
    let kept : list_any (λ (s : Standing). is_delete_all c.args.input.port s.request) c.args.self.now ≡ false =
    sym (found_any_mapped (λ (s : Standing). s.number) (λ (s : Standing). is_delete_all c.args.input.port s.request) c.args.self.now) ∙ (rw (← c.all_on.ensures) absent) in
    sym (led_by_one c.args.input c.args.home c.args.self.now c.in-Some.entry c.leads_home.result c.on.ensures.apart kept (sym c.on.ensures.found ∙ c.in-Some.is) c.leads_home.ensures)

pub returns-in-None : goal.returns-in-None
returns-in-None c =
    let absent : is_some c.all_on.result ≡ false = sym c.is_some.ensures ∙ c.if-is_some.false in
    let kept : list_any (λ (s : Standing). is_delete_all c.args.input.port s.request) c.args.self.now ≡ false =
    sym (found_any_mapped (λ (s : Standing). s.number) (λ (s : Standing). is_delete_all c.args.input.port s.request) c.args.self.now) ∙ (rw (← c.all_on.ensures) absent) in
    sym (led_by_none c.args.input c.args.home c.args.self.now c.on.ensures.apart kept (sym c.on.ensures.found ∙ c.in-None.is))
