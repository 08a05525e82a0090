use Rattle.std.proofs.Common.{[], codes, ◌∷◌}
use Rattle.lab_text.specs.Text.{hex_digits, line_of}
use Rattle.script_model.specs.Texts.{channel_text, place_text}
use Rattle.lab_text.proofs.Fronts.{begun, here, next, on_err, said}
use Rattle.line_text.proofs.events.write_forge.Goals as goal

pub returns-in_err-text-clause-err : goal.returns-in_err-text-clause-err
returns-in_err-text-clause-err c =
    said c.from_residual.result _ (begun _ _ _ c.in_err-text.ensures.err)

pub returns-in_err-write_place-clause-err : goal.returns-in_err-write_place-clause-err
returns-in_err-write_place-clause-err c =
    said c.from_residual-in_err-write_place.result _ (next _ _ (codes "forge ") (line_of (place_text c.args.names.now c.args.place ∷ channel_text c.args.channel ∷ hex_digits c.args.payload.now ∷ [])) _ c.in_ok-text.ensures.ok (here _ _ _ _ c.in_err-write_place.ensures.err))

pub returns-in_err-text-2-clause-err : goal.returns-in_err-text-2-clause-err
returns-in_err-text-2-clause-err c =
    said c.from_residual-in_err-text-2.result _ (next _ _ (codes "forge ") (line_of (place_text c.args.names.now c.args.place ∷ channel_text c.args.channel ∷ hex_digits c.args.payload.now ∷ [])) _ c.in_ok-text.ensures.ok (next _ _ _ _ _ c.in_ok-write_place.ensures.ok (begun _ _ _ c.in_err-text-2.ensures.err)))

pub returns-in_err-write_channel-clause-err : goal.returns-in_err-write_channel-clause-err
returns-in_err-write_channel-clause-err c =
    said c.from_residual-in_err-write_channel.result _ (next _ _ (codes "forge ") (line_of (place_text c.args.names.now c.args.place ∷ channel_text c.args.channel ∷ hex_digits c.args.payload.now ∷ [])) _ c.in_ok-text.ensures.ok (next _ _ _ _ _ c.in_ok-write_place.ensures.ok (next _ _ _ _ _ c.in_ok-text-2.ensures.ok (here _ _ _ _ c.in_err-write_channel.ensures.err))))

pub returns-in_err-text-3-clause-err : goal.returns-in_err-text-3-clause-err
returns-in_err-text-3-clause-err c =
    said c.from_residual-in_err-text-3.result _ (next _ _ (codes "forge ") (line_of (place_text c.args.names.now c.args.place ∷ channel_text c.args.channel ∷ hex_digits c.args.payload.now ∷ [])) _ c.in_ok-text.ensures.ok (next _ _ _ _ _ c.in_ok-write_place.ensures.ok (next _ _ _ _ _ c.in_ok-text-2.ensures.ok (next _ _ _ _ _ c.in_ok-write_channel.ensures.ok (begun _ _ _ c.in_err-text-3.ensures.err)))))

pub returns-in_err-hex-clause-err : goal.returns-in_err-hex-clause-err
returns-in_err-hex-clause-err c =
    said c.from_residual-in_err-hex.result _ (next _ _ (codes "forge ") (line_of (place_text c.args.names.now c.args.place ∷ channel_text c.args.channel ∷ hex_digits c.args.payload.now ∷ [])) _ c.in_ok-text.ensures.ok (next _ _ _ _ _ c.in_ok-write_place.ensures.ok (next _ _ _ _ _ c.in_ok-text-2.ensures.ok (next _ _ _ _ _ c.in_ok-write_channel.ensures.ok (next _ _ _ _ _ c.in_ok-text-3.ensures.ok (begun _ _ _ c.in_err-hex.ensures.err))))))

pub returns-clause-err : goal.returns-clause-err
returns-clause-err c =
    on_err c.text-4.result _ _ (λ h. next _ _ (codes "forge ") (line_of (place_text c.args.names.now c.args.place ∷ channel_text c.args.channel ∷ hex_digits c.args.payload.now ∷ [])) _ c.in_ok-text.ensures.ok (next _ _ _ _ _ c.in_ok-write_place.ensures.ok (next _ _ _ _ _ c.in_ok-text-2.ensures.ok (next _ _ _ _ _ c.in_ok-write_channel.ensures.ok (next _ _ _ _ _ c.in_ok-text-3.ensures.ok (next _ _ _ _ _ c.in_ok-hex.ensures.ok (begun _ _ _ h))))))) c.text-4.ensures.err
