-- What a run of a script computes with: who unfolds it unfolds all that its line names.
use Rattle.std.{specs.Int.{int_wrap}, specs.Fmt.{digits}}
use Rattle.zf_spec.{specs.Planes.{digits_in_planes}, specs.Padding.{pad}, specs.Lift.{along}}
use Rattle.zf_spec.{specs.Lorenzo.{lorenzo, unlorenzo}, specs.Stream.{header, file}}
use Rattle.zf_spec.specs.Codes.{existing_values, rate, read_rate, rev_of_planes, rev, read_rev}
use Rattle.zf_base.specs.Formats.{existing_of, meant, encoded, with_at}
use Rattle.zf_cached.specs.Touch.{write_back, write_back_dirty, write_back_line, hit, miss, touch_at, soiled, touch_for_writing_at, with_values}
use Rattle.zf_cached.specs.Changes.{write_back_lines, emptied, flush, discard, raised, relined, opened, zeros, resized}
use Rattle.zf_cached.specs.Arrays.{plain_coding, rate_coding, mode_coding, array_format, open_array, codes_of, saved_file, file_bytes}
use Rattle.zf_cached.{specs.Grammar.{candidates, read_line}, specs.Views.{acted, answered}}
use Rattle.zf_cached.specs.Splits.{opened_view, opened_views, coded}
use Rattle.zf_cached.specs.Steps.{with_view, by_view, split_into, touched, changed, changed_at, filled_below, summed, flushed_views, joined, refusal, done, step}
use Rattle.zf_cached.specs.Runs.{read_step, line_step, run_lines, run_script, ended, run, look, array_setting, plain_setting, look_setting, run_text, run_saved, look_text}

unfoldable pub script_runs : Unit {0}
unfolding int_wrap digits pad along digits_in_planes lorenzo unlorenzo existing_values rate read_rate rev_of_planes rev read_rev header file existing_of meant encoded with_at write_back write_back_dirty write_back_line hit miss touch_at soiled touch_for_writing_at with_values write_back_lines emptied flush discard raised relined opened zeros resized plain_coding rate_coding mode_coding array_format open_array codes_of saved_file file_bytes candidates read_line touched changed changed_at filled_below summed with_view by_view split_into acted answered opened_view opened_views coded flushed_views joined refusal done step read_step line_step run_lines run_script ended run look array_setting plain_setting look_setting run_text run_saved look_text
script_runs = tt
