use Rattle.byte_formats.proofs.Bodies.{bodies_decode_well}
use Rattle.byte_formats.proofs.laws.lawful_formats_decode_bodies_well.Goals as goal

pub returns : goal.returns
returns g c = λ f law. bodies_decode_well f law
