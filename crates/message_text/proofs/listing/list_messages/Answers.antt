use Rattle.std.proofs.Common.{◌≡◌, ℕ, List, Option, None, Some, length, subst, ◌∙◌, arith}
use Rattle.std.proofs.lemmas.Bool.Decides.{nat_tests}
use Rattle.lab_text.specs.declared.line.LineFault.{LineFault}
use Rattle.lab_text.specs.Line.{hex_line}
use Rattle.lab_text.specs.Lines.{lines_of}
use Rattle.message_text.specs.Listing.{IsListedFrom, IsLineListed}
use Rattle.message_text.proofs.Listings.{line_listed, fault_later, refused_listed, refused_fault, none_listed, none_fault}
use Rattle.message_text.proofs.listing.list_messages.Goals as goal

pub loop-rest-preserved : goal.loop-rest-preserved
loop-rest-preserved c =
    let whole : List ℕ → Type 0 = IsListedFrom c.args.protocol 0 0 (lines_of c.args.input.now) in
    let listed : IsLineListed c.args.protocol (hex_line c.loop-rest.before c.split_line.result.0.now) None c.loop-rest.out c.list_line.new.out =
    subst (λ (refused : Option LineFault). IsLineListed c.args.protocol (hex_line c.loop-rest.before c.split_line.result.0.now) refused c.loop-rest.out c.list_line.new.out) c.in-None.is c.in_ok-list_line.ensures in
    record {
      counted = omega (arith, c.loop-rest.invariant.counted, c.split_line.ensures.all);
      numbers = omega (arith, c.loop-rest.invariant.numbers, c.split_line.ensures.some);
      listed = line_listed c.args.protocol c.loop-rest.before c.loop-rest.number c.loop-rest.rest.now c.split_line.result.0.now c.split_line.result.1.now whole c.loop-rest.out c.list_line.new.out c.split_line.ensures.lines listed c.loop-rest.invariant.listed;
      fault = fault_later c.args.protocol c.loop-rest.before c.loop-rest.rest.now c.split_line.result.0.now c.split_line.result.1.now c.loop-rest.out c.list_line.new.out _ c.split_line.ensures.lines listed c.loop-rest.invariant.fault;
    }

pub returns-in-Some : goal.returns-in-Some
returns-in-Some c =
    let listed : IsLineListed c.args.protocol (hex_line c.loop-rest.before c.split_line.result.0.now) (Some c.in-Some.fault) c.loop-rest.out c.list_line.new.out =
    subst (λ (refused : Option LineFault). IsLineListed c.args.protocol (hex_line c.loop-rest.before c.split_line.result.0.now) refused c.loop-rest.out c.list_line.new.out) c.in-Some.is c.in_ok-list_line.ensures in
    record {
      text = refused_listed c.args.protocol c.loop-rest.before c.loop-rest.number c.loop-rest.rest.now c.split_line.result.0.now c.split_line.result.1.now c.args.input.now c.in-Some.fault c.loop-rest.out c.list_line.new.out c.into_octets.result
          c.requires c.split_line.ensures.lines listed (c.into_octets.ensures ∙ c.in_ok-write_refused_line-in-Some.ensures) c.loop-rest.invariant.listed;
      refused = refused_fault c.args.protocol c.loop-rest.before c.loop-rest.rest.now c.split_line.result.0.now c.split_line.result.1.now c.args.input.now c.in-Some.fault c.loop-rest.out c.list_line.new.out c.requires c.split_line.ensures.lines listed c.loop-rest.invariant.fault;
    }

pub returns-clause-text : goal.returns-clause-text
returns-clause-text c =
    let none : length c.loop-rest.rest.now ≡ 0 = grind (arith, nat_tests, c.is_empty.ensures, c.loop-rest-test.false) in
    none_listed c.args.protocol c.loop-rest.before c.loop-rest.number c.loop-rest.rest.now c.args.input.now c.loop-rest.out c.into_octets-2.result c.requires none c.into_octets-2.ensures c.loop-rest.invariant.listed

pub returns-clause-refused : goal.returns-clause-refused
returns-clause-refused c =
    let none : length c.loop-rest.rest.now ≡ 0 = grind (arith, nat_tests, c.is_empty.ensures, c.loop-rest-test.false) in
    none_fault c.loop-rest.before c.loop-rest.rest.now c.args.input.now c.requires none c.loop-rest.invariant.fault
