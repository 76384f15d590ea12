-- What a worked script comes to, by what its begins come to.
use Rattle.std.specs.Prelude.{◌≡◌, ℕ, List, [], ◌∷◌, ◌++◌, codes, Result}
use Rattle.std.specs.declared.option.Option.{Option}
use Rattle.std.proofs.Common.{ap, ◌∙◌}
use Rattle.outside.specs.Content.{Contents}
use Rattle.bitmap_kind.specs.Picture.{Picture}
use Rattle.bitmap_kind.specs.declared.bitmaps.Config.TheVariants.{Argb8888}
use Rattle.bitmap_kind.specs.declared.bitmaps.Transform.TheVariants as transforms
use Rattle.bitmap_kind.specs.declared.bitmaps.Rule.TheVariants.{AtLeast}
use Rattle.cache_key.specs.Key.{Key}
use Rattle.image_format.specs.Content.{picture_at}
use Rattle.load_cause.specs.Ends.{end_of}
use Rattle.load_cause.specs.declared.causes.Cause.{Cause}
use Rattle.script_lines.specs.Script.{Script, script_of}
use Rattle.printed_lines.specs.Printed.{run_text}
use Rattle.script_walk.specs.Walk.{Step, walk, opening, closing}
use Rattle.script_walk.specs.Ends.{lines_in, bad_line, output, status_of, exit_status}
use Rattle.script_walk.specs.Laws.{EachEnd, EndsDecide}
use Rattle.glide_run.specs.Built.{built}
use Rattle.glide_run.specs.Promise.{answer}
use Rattle.glide_run.specs.Worked.{text_of, ComesTo}

-- the key of `red` as the worked line asks for it
abbrev pub red_key : Key
red_key = record {
  url = codes "red";
  sig = codes "1";
  width = 2;
  height = 1;
  transform = transforms.Nothing;
  config = Argb8888;
  rule = AtLeast;
}

-- what it comes to, where the content has this
abbrev pub red_end : Option (List ℕ) → Result Picture Cause
red_end found = end_of (picture_at found red_key)

-- the picture of the worked text
abbrev pub red_picture : Picture
red_picture = record { width = 2; height = 1; config = Argb8888; bytes = 255 ∷ 0 ∷ 0 ∷ 255 ∷ 0 ∷ 0 ∷ 255 ∷ 255 ∷ [] }

-- A script comes to what it does where each begin comes to one thing, if that is what its begins come to.
pub comes_to : EndsDecide → (content : Contents) (script lines : List (List ℕ)) (status : ℕ) (result : Result Picture Cause)
    → EachEnd (λ begin came. answer content begin ≡ came) (walk (λ begin. result) opening (built (script_of (text_of script))).commands).events
    → output (λ begin. result) (built (script_of (text_of script))) ≡ text_of lines
    → exit_status (λ begin. result) (built (script_of (text_of script))) ≡ status → ComesTo content script lines status
comes_to law content script lines status result ends printed ended =
    let asked : Script = built (script_of (text_of script)) in
    let same = law (answer content) (λ begin. result) asked.commands ends in
    record {
      printed = ap (λ (all : Step). run_text (lines_in (all.events ++ closing all.stage)) (bad_line asked)) same ∙ printed;
      ended = ap (λ (all : Step). status_of (lines_in (all.events ++ closing all.stage)) (bad_line asked)) same ∙ ended;
    }
