pub mod Fixed
pub mod Hours
pub mod Papers
pub mod Staff
pub mod HoursLaws
pub mod FixedLaws
pub mod PapersLaws
pub mod StaffLaws
