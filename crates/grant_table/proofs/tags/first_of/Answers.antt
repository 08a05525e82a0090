use Rattle.std.proofs.Common.{◌≡◌, ◌∙◌, ◌+◌, ◌-◌, suc, drop, take, map, length, Some, None, Option, List, ℕ, sym, subst, arith}
use Rattle.std.proofs.lemmas.List.{take_rest}
use Rattle.memchr.specs.Find.{IsFirstByte, is_byte}
use Rattle.grant_table.specs.declared.held.Held.{Held}
use Rattle.grant_table.specs.Tags.{flow_tag, held_tag}
use Rattle.grant_table.proofs.Tagged.{none_behind, one_behind, inside, here, behind}
use Rattle.grant_table.proofs.tags.first_of.Goals as goal

-- what the search of octets answered, told of the tags behind the place
told : (tag tag2 : ℕ) (tags : List ℕ) (hs : List Held) (from : ℕ) (answer found : Option ℕ) → tags ≡ map held_tag hs → tag ≡ tag2 → answer ≡ found
    → IsFirstByte (is_byte tag) (take (length tags - from) (drop from tags)) answer
    → IsFirstByte (is_byte tag2) (drop from (map held_tag hs)) found
told tag tag2 tags hs from answer found tagged same is it =
    let whole : IsFirstByte (is_byte tag) (drop from tags) answer = subst (λ (octets : List ℕ). IsFirstByte (is_byte tag) octets answer) (take_rest tags from) it in
    let by_held : IsFirstByte (is_byte tag) (drop from (map held_tag hs)) answer = subst (λ (octets : List ℕ). IsFirstByte (is_byte tag) (drop from octets) answer) tagged whole in
    let by_tag : IsFirstByte (is_byte tag2) (drop from (map held_tag hs)) answer = subst (λ (t : ℕ). IsFirstByte (is_byte t) (drop from (map held_tag hs)) answer) same by_held in
    subst (λ (o : Option ℕ). IsFirstByte (is_byte tag2) (drop from (map held_tag hs)) o) is by_tag

pub returns-in_default : goal.returns-in_default
returns-in_default c =
    sym (none_behind c.args.flow.now c.args.held.now c.loop-from.from c.loop-from.invariant.passed
    (told c.flow_tag-tag.result (flow_tag c.args.flow.now) c.args.tags.now c.args.held.now c.loop-from.from c.memchr.result None c.requires c.flow_tag-tag.ensures c.in_default.is c.memchr.ensures))

pub returns-then-carries : goal.returns-then-carries
returns-then-carries c =
    let found = told c.flow_tag-tag.result (flow_tag c.args.flow.now) c.args.tags.now c.args.held.now c.loop-from.from c.memchr.result (Some c.in-Some.found) c.requires c.flow_tag-tag.ensures c.in-Some.is c.memchr.ensures in
    sym (one_behind c.args.flow.now c.args.held.now c.loop-from.from c.in-Some.found c.loop-from.invariant.passed found
    ∙ here c.args.flow.now c.args.held.now (c.loop-from.from + c.in-Some.found) _ (inside (is_byte (flow_tag c.args.flow.now)) c.args.held.now c.loop-from.from c.in-Some.found found) (sym c.carries.ensures ∙ c.if-carries.true))

pub loop-from-preserved : goal.loop-from-preserved
loop-from-preserved c =
    let found = told c.flow_tag-tag.result (flow_tag c.args.flow.now) c.args.tags.now c.args.held.now c.loop-from.from c.memchr.result (Some c.in-Some.found) c.requires c.flow_tag-tag.ensures c.in-Some.is c.memchr.ensures in
    let place : c.loop-from.from + (c.in-Some.found + 1) ≡ suc (c.loop-from.from + c.in-Some.found) = omega arith in
    record {
      passed = rw place (one_behind c.args.flow.now c.args.held.now c.loop-from.from c.in-Some.found c.loop-from.invariant.passed found
          ∙ behind c.args.flow.now c.args.held.now (c.loop-from.from + c.in-Some.found) _ (inside (is_byte (flow_tag c.args.flow.now)) c.args.held.now c.loop-from.from c.in-Some.found found) (sym c.carries.ensures ∙ c.if-carries.false));
    }
