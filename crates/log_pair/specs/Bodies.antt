-- The bodies of the frames of several logs.
use Rattle.std.specs.Prelude.{ℕ, ◌==◌, List, [], ◌∷◌, ◌++◌, if◌then◌else◌}
use Rattle.disk_model.specs.Logs.{Image}
use Rattle.frame_log.specs.Frames.{MayHave}

-- the bodies of the frames of each log
abbrev pub Bodies : Type 0
Bodies = ℕ → List (List ℕ)

-- no log has a frame
abbrev pub no_bodies : Bodies
no_bodies file = []

-- these bodies in this log, and those of every other log as they are
abbrev pub with_bodies : Bodies → ℕ → List (List ℕ) → Bodies
with_bodies all file bodies other = if other == file then bodies else all other

-- one more body at the end of a log
abbrev pub with_body : Bodies → ℕ → List ℕ → Bodies
with_body all file body other = if other == file then all other ++ body ∷ [] else all other

-- the log of this file has the frames that are kept, or these and more
abbrev pub MayHaveAt : ℕ → Bodies → Bodies → Image → Type 0
MayHaveAt file kept more image = MayHave (kept file) (more file) (image file)
