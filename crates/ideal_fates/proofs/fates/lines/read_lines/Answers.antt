use Rattle.std.proofs.Common.{◌≡◌, ◌+◌, ◌++◌, ◌∙◌, Ok, length, sym, ap, subst, arith}
use Rattle.world_model.specs.Conditions.{IsTopology}
use Rattle.world_model.specs.Topology.{Topology}
use Rattle.script_model.specs.Reading.{state_after}
use Rattle.script_model.specs.Reports.{record_lines}
use Rattle.script_model.specs.State.{ScriptState}
use Rattle.ideal_fates.specs.Told.{after_line, records_of}
use Rattle.ideal_fates.proofs.Following.{is_made}
use Rattle.ideal_fates.proofs.Reading.{line_more, refused_more, follows_more, octets_more, lines_more}
use Rattle.ideal_fates.proofs.fates.lines.read_lines.Goals as goal

pub take-requires-clause-topology : goal.take-requires-clause-topology
take-requires-clause-topology c =
    let state = c.loop-rest.state in
    let line = c.split_line.result.0.now in
    let said = c.in-Ok.said in
    let all = c.split_line.ensures.all in
    let some = c.split_line.ensures.some in
    let kept = c.loop-rest.invariant in
    let is : c.read_line.new.state ≡ state_after state line (Ok said) = c.in-Ok.ensures.after (omega (arith, kept.room, kept.lines, all, some), omega (arith, kept.room, kept.lines, all, some)) in
    subst IsTopology (sym (c.topology.ensures ∙ ap (λ (s : ScriptState). s.topology) is))
    (is_made state c.loop-rest.fates line said kept.follows c.in-Ok.ensures.sayable)

pub loop-rest-preserved : goal.loop-rest-preserved
loop-rest-preserved c =
    let state = c.loop-rest.state in
    let now = c.read_line.new.state in
    let told = c.loop-rest.fates in
    let then = c.take.new.self in
    let line = c.split_line.result.0.now in
    let others = c.split_line.result.1.now in
    let rest = c.loop-rest.rest.now in
    let said = c.in-Ok.said in
    let split = c.split_line.ensures.lines in
    let all = c.split_line.ensures.all in
    let some = c.split_line.ensures.some in
    let kept = c.loop-rest.invariant in
    let says = c.in-Ok.ensures.said.0 in
    let is : now ≡ state_after state line (Ok said) = c.in-Ok.ensures.after (omega (arith, kept.room, kept.lines, all, some), omega (arith, kept.room, kept.lines, all, some)) in
    let tells : then ≡ after_line now.topology told said =
    c.in_ok-take-in-Ok.ensures.told ∙ ap (λ (t : Topology). after_line t told said) c.topology.ensures in
    let writes : c.take.new.out ≡ c.loop-rest.out ++ record_lines now.topology (records_of now.topology told said) =
    c.in_ok-take-in-Ok.ensures.written ∙ ap (λ (t : Topology). c.loop-rest.out ++ record_lines t (records_of t told said)) c.topology.ensures in
    let octets : now.octets ≡ state.octets + length line = ap (λ (s : ScriptState). s.octets) is ∙ octets_more state line said in
    let lines : now.lines ≡ state.lines + 1 = ap (λ (s : ScriptState). s.lines) is ∙ lines_more state line said in
    record {
      follows = follows_more state now told then line said kept.follows says is tells;
      room = omega (arith, kept.room, all, octets);
      lines = omega (arith, kept.lines, some, octets, lines);
      told = line_more state now told then line said rest others c.loop-rest.out c.take.new.out split says is tells writes ∙ kept.told;
      refused = refused_more state now line said rest others split says is ∙ kept.refused;
    }
