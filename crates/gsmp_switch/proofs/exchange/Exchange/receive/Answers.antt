use Rattle.std.proofs.Common.{◌≡◌, ℕ, subst}
use Rattle.std.specs.Prelude.{nat_lt, OnOk}
use Rattle.reassembly.specs.Receipt.{reassembly_in, received}
use Rattle.gsmp_switch.proofs.Exchanges.{free_is, on_ok, store_after}
use Rattle.gsmp_switch.proofs.exchange.Exchange.receive.Goals as goal

pub returns-clause-store : goal.returns-clause-store
returns-clause-store c =
    let free = free_is c.self.inside.fabric c.self.inside.reassembly c.self.invariant in
    rw (← c.self.view_is)
    (on_ok c.receive.result _ _
    (λ is. store_after c.self.inside.fabric c.receive.new.store c.self.inside.reassembly c.receive.new.self _ c.receive.ensures.chain c.receive.ensures.rest is)
    (subst (λ (n : ℕ). OnOk c.receive.result (reassembly_in c.receive.new.store.region c.receive.new.self ≡ (received c.args.notes.now (nat_lt 0 n) (reassembly_in c.self.inside.fabric.region c.self.inside.reassembly) c.args.cell.now).reassembly)) free c.receive.ensures.reassembly))

pub returns-clause-notes : goal.returns-clause-notes
returns-clause-notes c =
    let free = free_is c.self.inside.fabric c.self.inside.reassembly c.self.invariant in
    rw (← c.self.view_is)
    (subst (λ (n : ℕ). OnOk c.receive.result (c.receive.new.notes ≡ (received c.args.notes.now (nat_lt 0 n) (reassembly_in c.self.inside.fabric.region c.self.inside.reassembly) c.args.cell.now).notes)) free c.receive.ensures.notes)

pub returns-clause-payload : goal.returns-clause-payload
returns-clause-payload c =
    let free = free_is c.self.inside.fabric c.self.inside.reassembly c.self.invariant in
    rw (← c.self.view_is) (rw free at c.receive.ensures.payload)
