-- What `UnixComponents` shows.
use Rattle.std.specs.Prelude.{List}
use Rattle.relative_path.specs.declared.unix_components.UnixComponents.{UnixComponents}
use Rattle.relative_path.specs.Steps.{Step, components}
use Rattle.relative_path.specs.Unix.{counted}

-- the components that are left in the iterator
abbrev pub unix_left : UnixComponents → List Step
unix_left it = counted it.skips_cur_dirs (components it.left.text.now)
